use Rattle.std.proofs.Common.{◌↔◌, IsTrue, sym, subst}
use Rattle.explorer_model.specs.declared.chess.Role.{Role}
use Rattle.step_tables.proofs.Rule.{both}
use Rattle.legal_moves.specs.Sources.{Lands}
use Rattle.legal_moves.proofs.AttackSets.{clear-open}
use Rattle.legal_moves.proofs.sources.lands.Goals as goal

pub returns-in-Knight : goal.returns-in-Knight
returns-in-Knight c =
    let P : Role → Type 0 = λ role. IsTrue c.contains.result ↔ Lands c.args.position.now role c.args.m in
    subst P (sym c.in-Knight.is) (both c.contains.ensures (c.knight_targets.ensures c.args.m.to.index c.args.m.to.on_board))

pub returns-in-King : goal.returns-in-King
returns-in-King c =
    let P : Role → Type 0 = λ role. IsTrue c.contains-in-King.result ↔ Lands c.args.position.now role c.args.m in
    subst P (sym c.in-King.is) (both c.contains-in-King.ensures (c.king_targets.ensures c.args.m.to.index c.args.m.to.on_board))

pub returns-in-Bishop : goal.returns-in-Bishop
returns-in-Bishop c =
    let P : Role → Type 0 = λ role. IsTrue c.goes_diagonally.result ↔ Lands c.args.position.now role c.args.m in
    let open_line = clear-open c.args.position.now.squares c.args.info.now.enemy_sets.occupied c.args.m.from.index c.args.m.to.index c.requires.informed.enemy_sets.occupied in
    subst P (sym c.in-Bishop.is) (
      λ e. (let h = c.goes_diagonally.ensures.0 e in (h.0, open_line.0 h.1)),
      λ h. c.goes_diagonally.ensures.1 (h.0, open_line.1 h.1),
    )

pub returns-in-Rook : goal.returns-in-Rook
returns-in-Rook c =
    let P : Role → Type 0 = λ role. IsTrue c.goes_straight.result ↔ Lands c.args.position.now role c.args.m in
    let open_line = clear-open c.args.position.now.squares c.args.info.now.enemy_sets.occupied c.args.m.from.index c.args.m.to.index c.requires.informed.enemy_sets.occupied in
    subst P (sym c.in-Rook.is) (
      λ e. (let h = c.goes_straight.ensures.0 e in (h.0, open_line.0 h.1)),
      λ h. c.goes_straight.ensures.1 (h.0, open_line.1 h.1),
    )

pub returns-in-Queen : goal.returns-in-Queen
returns-in-Queen c =
    let P : Role → Type 0 = λ role. IsTrue c.goes_as_queen.result ↔ Lands c.args.position.now role c.args.m in
    let open_line = clear-open c.args.position.now.squares c.args.info.now.enemy_sets.occupied c.args.m.from.index c.args.m.to.index c.requires.informed.enemy_sets.occupied in
    subst P (sym c.in-Queen.is) (
      λ e. (let h = c.goes_as_queen.ensures.0 e in (h.0, open_line.0 h.1)),
      λ h. c.goes_as_queen.ensures.1 (h.0, open_line.1 h.1),
    )

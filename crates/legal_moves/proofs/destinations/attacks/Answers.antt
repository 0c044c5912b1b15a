use Rattle.std.proofs.Common.{◌↔◌, sym, subst}
use Rattle.step_tables.specs.Bitboard.{Holds}
use Rattle.explorer_model.specs.declared.chess.Role.{Role}
use Rattle.explorer_model.specs.Board.{piece_at, IsOfColor, RoleAttacks}
use Rattle.legal_moves.proofs.AttackSets.{clear-open}
use Rattle.legal_moves.proofs.DestinationLemmas.{others-say, sliders-say}
use Rattle.legal_moves.proofs.destinations.attacks.Goals as goal

pub returns-in-Pawn : goal.returns-in-Pawn
returns-in-Pawn c = λ to on.
    let P : Role → Type 0 = λ role. Holds c.except.result to
    ↔ (RoleAttacks c.args.position.now.squares c.args.piece.color role c.args.from to × ¬ IsOfColor c.args.position.now.turn (piece_at c.args.position.now.squares to)) in
    subst P (sym c.in-Pawn.is)
    (others-say c.except.result c.pawn_diagonals.result c.args.info.now.own to (c.except.ensures to on) (c.pawn_diagonals.ensures to on) (c.requires.informed.own to on))

pub returns-in-Knight : goal.returns-in-Knight
returns-in-Knight c = λ to on.
    let P : Role → Type 0 = λ role. Holds c.except-in-Knight.result to
    ↔ (RoleAttacks c.args.position.now.squares c.args.piece.color role c.args.from to × ¬ IsOfColor c.args.position.now.turn (piece_at c.args.position.now.squares to)) in
    subst P (sym c.in-Knight.is)
    (others-say c.except-in-Knight.result c.knight_targets.result c.args.info.now.own to (c.except-in-Knight.ensures to on) (c.knight_targets.ensures to on) (c.requires.informed.own to on))

pub returns-in-Bishop : goal.returns-in-Bishop
returns-in-Bishop c = λ to on.
    let P : Role → Type 0 = λ role. Holds c.open_targets.result to
    ↔ (RoleAttacks c.args.position.now.squares c.args.piece.color role c.args.from to × ¬ IsOfColor c.args.position.now.turn (piece_at c.args.position.now.squares to)) in
    subst P (sym c.in-Bishop.is)
    (sliders-say c.open_targets.result c.except-in-Bishop.result c.bishop_targets.result c.args.info.now.own to (c.except-in-Bishop.ensures to on) (c.bishop_targets.ensures to on)
    (c.requires.informed.own to on) (c.open_targets.ensures to on)
    (clear-open c.args.position.now.squares c.args.info.now.enemy_sets.occupied c.args.from to c.requires.informed.enemy_sets.occupied))

pub returns-in-Rook : goal.returns-in-Rook
returns-in-Rook c = λ to on.
    let P : Role → Type 0 = λ role. Holds c.open_targets-in-Rook.result to
    ↔ (RoleAttacks c.args.position.now.squares c.args.piece.color role c.args.from to × ¬ IsOfColor c.args.position.now.turn (piece_at c.args.position.now.squares to)) in
    subst P (sym c.in-Rook.is)
    (sliders-say c.open_targets-in-Rook.result c.except-in-Rook.result c.rook_targets.result c.args.info.now.own to (c.except-in-Rook.ensures to on) (c.rook_targets.ensures to on)
    (c.requires.informed.own to on) (c.open_targets-in-Rook.ensures to on)
    (clear-open c.args.position.now.squares c.args.info.now.enemy_sets.occupied c.args.from to c.requires.informed.enemy_sets.occupied))

pub returns-in-Queen : goal.returns-in-Queen
returns-in-Queen c = λ to on.
    let P : Role → Type 0 = λ role. Holds c.open_targets-in-Queen.result to
    ↔ (RoleAttacks c.args.position.now.squares c.args.piece.color role c.args.from to × ¬ IsOfColor c.args.position.now.turn (piece_at c.args.position.now.squares to)) in
    subst P (sym c.in-Queen.is)
    (sliders-say c.open_targets-in-Queen.result c.except-in-Queen.result c.queen_targets.result c.args.info.now.own to (c.except-in-Queen.ensures to on) (c.queen_targets.ensures to on)
    (c.requires.informed.own to on) (c.open_targets-in-Queen.ensures to on)
    (clear-open c.args.position.now.squares c.args.info.now.enemy_sets.occupied c.args.from to c.requires.informed.enemy_sets.occupied))

pub returns-in-King : goal.returns-in-King
returns-in-King c = λ to on.
    let P : Role → Type 0 = λ role. Holds c.except-in-King.result to
    ↔ (RoleAttacks c.args.position.now.squares c.args.piece.color role c.args.from to × ¬ IsOfColor c.args.position.now.turn (piece_at c.args.position.now.squares to)) in
    subst P (sym c.in-King.is)
    (others-say c.except-in-King.result c.king_targets.result c.args.info.now.own to (c.except-in-King.ensures to on) (c.king_targets.ensures to on) (c.requires.informed.own to on))

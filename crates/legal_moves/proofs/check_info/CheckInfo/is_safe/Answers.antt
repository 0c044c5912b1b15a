use Rattle.std.proofs.Common.{◌↔◌, ◌⊎◌, IsTrue, subst}
use Rattle.explorer_model.specs.declared.chess.Color.{Color}
use Rattle.explorer_model.specs.Board.{opponent}
use Rattle.explorer_model.specs.Chess.{squares_after}
use Rattle.legal_moves.specs.EnemySets.{LeapsTo, SlidesTo}
use Rattle.legal_moves.proofs.AttackSets.{attacked-says}
use Rattle.legal_moves.proofs.BitboardFacts.{both-ways, not-says}
use Rattle.legal_moves.proofs.OneKing.{check_after}
use Rattle.legal_moves.proofs.check_info.CheckInfo.is_safe.Goals as goal

pub returns : goal.returns
returns c =
    let P : Color → Type 0 = λ enemy.
    IsTrue c.is_attacked.result ↔ (LeapsTo c.enemy_sets_after.result enemy c.king_after-king.result ⊎ SlidesTo c.enemy_sets_after.result c.king_after-king.result) in
    not-says c.is_attacked.result _
    (both-ways
    (both-ways (subst P c.opponent.ensures c.is_attacked.ensures)
    (attacked-says (squares_after c.args.position.now c.args.m) (opponent c.args.position.now.turn) c.enemy_sets_after.result
    c.king_after-king.result c.enemy_sets_after.ensures))
    (check_after c.args.position.now c.args.m c.king_after-king.result c.requires.informed.valid c.requires.pseudo_legal
    c.king_after-king.ensures.on_board c.king_after-king.ensures.stands))

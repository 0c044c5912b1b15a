use Rattle.std.proofs.Common.{◌↔◌, ◌⊎◌, IsTrue, subst}
use Rattle.explorer_model.specs.declared.chess.Color.{Color}
use Rattle.explorer_model.specs.Board.{opponent}
use Rattle.legal_moves.specs.EnemySets.{LeapsTo, SlidesTo}
use Rattle.legal_moves.proofs.AttackSets.{attacked-says}
use Rattle.legal_moves.proofs.BitboardFacts.{both-ways}
use Rattle.legal_moves.proofs.check_info.CheckInfo.is_attacked.Goals as goal

pub returns : goal.returns
returns c =
    let P : Color → Type 0 = λ enemy.
    IsTrue c.is_attacked.result ↔ (LeapsTo c.args.self.now.enemy_sets enemy c.args.square ⊎ SlidesTo c.args.self.now.enemy_sets c.args.square) in
    both-ways (subst P c.opponent.ensures c.is_attacked.ensures)
    (attacked-says c.args.position.now.squares (opponent c.args.position.now.turn) c.args.self.now.enemy_sets c.args.square c.requires.informed.enemy_sets)

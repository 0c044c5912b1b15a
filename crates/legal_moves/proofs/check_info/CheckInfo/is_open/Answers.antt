use Rattle.legal_moves.proofs.AttackSets.{clear-open}
use Rattle.legal_moves.proofs.BitboardFacts.{both-ways}
use Rattle.legal_moves.proofs.check_info.CheckInfo.is_open.Goals as goal

pub returns : goal.returns
returns c =
    both-ways c.is_clear.ensures
    (clear-open c.args.position.now.squares c.args.self.now.enemy_sets.occupied c.args.a c.args.b c.requires.informed.enemy_sets.occupied)

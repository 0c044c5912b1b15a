use Rattle.legal_moves.proofs.BitboardFacts.{IsScanned}
use Rattle.legal_moves.proofs.enemy_sets.is_one_clear.Given as goal

abbrev pub invariant-loop-rest : goal.invariant-loop-rest
invariant-loop-rest l = IsScanned l.sliders l.rest l.occupied l.square

abbrev pub decreases-loop-rest : goal.decreases-loop-rest
decreases-loop-rest l = l.rest

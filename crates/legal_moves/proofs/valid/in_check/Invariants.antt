use Rattle.legal_moves.proofs.CheckLemmas.{AreSearched}
use Rattle.legal_moves.proofs.valid.in_check.Given as goal

abbrev pub invariant-loop-rest : goal.invariant-loop-rest
invariant-loop-rest l = AreSearched l.squares l.fn.color l.rest

abbrev pub decreases-loop-rest : goal.decreases-loop-rest
decreases-loop-rest l = l.rest

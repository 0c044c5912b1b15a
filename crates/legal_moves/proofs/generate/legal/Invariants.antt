use Rattle.legal_moves.proofs.Lists.{IsSwept}
use Rattle.legal_moves.proofs.generate.legal.Given as goal

abbrev pub invariant-loop-rest : goal.invariant-loop-rest
invariant-loop-rest l = IsSwept l.position l.rest l.moves.items

abbrev pub decreases-loop-rest : goal.decreases-loop-rest
decreases-loop-rest l = l.rest

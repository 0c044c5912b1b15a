use Rattle.legal_moves.proofs.EnPassantCaptures.{AreTried}
use Rattle.legal_moves.proofs.tidy.can_capture_en_passant.Given as goal

abbrev pub invariant-loop-rest : goal.invariant-loop-rest
invariant-loop-rest l = AreTried l.position l.to l.rest

abbrev pub decreases-loop-rest : goal.decreases-loop-rest
decreases-loop-rest l = l.rest

use Rattle.legal_moves.specs.Pins.{IsAlone}
use Rattle.legal_moves.proofs.BitboardFacts.{IsJoined}
use Rattle.legal_moves.proofs.pins.alone_between.Given as goal

abbrev pub invariant-loop-rest : goal.invariant-loop-rest
invariant-loop-rest l = IsJoined l.sliders l.rest l.found (λ a s. IsAlone l.occupied a s l.square)

abbrev pub decreases-loop-rest : goal.decreases-loop-rest
decreases-loop-rest l = l.rest

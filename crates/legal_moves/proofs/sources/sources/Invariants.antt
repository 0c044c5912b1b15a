use Rattle.legal_moves.specs.Sources.{AreSifted, IsSource}
use Rattle.legal_moves.proofs.sources.sources.Given as goal

abbrev pub invariant-loop-rest : goal.invariant-loop-rest
invariant-loop-rest l = AreSifted l.all l.rest l.found (IsSource l.position l.role l.to l.promotion)

abbrev pub decreases-loop-rest : goal.decreases-loop-rest
decreases-loop-rest l = l.rest

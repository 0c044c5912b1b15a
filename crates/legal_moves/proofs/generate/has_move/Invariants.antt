use Rattle.std.proofs.Common.{◌≡◌, length}
use Rattle.legal_moves.proofs.Lists.{IsSwept}
use Rattle.legal_moves.proofs.generate.has_move.Given as goal

abbrev pub invariant-loop-rest : goal.invariant-loop-rest
invariant-loop-rest l = IsSwept l.position l.rest l.moves.items × (length l.moves.items ≡ 0)

abbrev pub decreases-loop-rest : goal.decreases-loop-rest
decreases-loop-rest l = l.rest

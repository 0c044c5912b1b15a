use Rattle.std.proofs.Common.{take}
use Rattle.manifest.proofs.FirstLimits.{HaveSoFar}
use Rattle.manifest.proofs.first_limits.first_over.Given as goal

abbrev pub invariant-loop-batch : goal.invariant-loop-batch
invariant-loop-batch l = HaveSoFar (take l.batch-index l.batches) l.games l.bytes l.gate

use Rattle.std.proofs.Common.{take}
use Rattle.manifest.proofs.StoringLemmas.{IsStoredUpTo}
use Rattle.manifest.proofs.manifest.Manifest.store_all.Given as goal

abbrev pub invariant-loop-batch : goal.invariant-loop-batch
invariant-loop-batch g l =
    IsStoredUpTo g.D.Disk.disk g.D.Disk.left_since (take l.batch-index l.batches) l.initial.self l.self

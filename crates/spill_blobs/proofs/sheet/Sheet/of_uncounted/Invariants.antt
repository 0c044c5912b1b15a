use Rattle.std.proofs.Common.{length}
use Rattle.spill_blobs.proofs.SheetLemmas.{IsUnderWay}
use Rattle.spill_blobs.proofs.sheet.Sheet.of_uncounted.Given as goal

abbrev pub invariant-loop-row : goal.invariant-loop-row
invariant-loop-row g l = IsUnderWay l.sheet l.walk l.segment.rows

abbrev pub decreases-loop-row : goal.decreases-loop-row
decreases-loop-row g l = length l.walk

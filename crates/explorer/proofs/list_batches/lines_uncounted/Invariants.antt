use Rattle.std.proofs.Common.{◌≡◌, take}
use Rattle.published_index.specs.Cover.{journal_of}
use Rattle.explorer.specs.ListBatches.{batch_lines}
use Rattle.explorer.proofs.list_batches.lines_uncounted.Given as goal

-- the batches of the segments before this one are listed
abbrev pub invariant-loop-segment : goal.invariant-loop-segment
invariant-loop-segment g l = l.lines.items ≡ batch_lines 1 (journal_of (take l.segment-index l.snapshot))

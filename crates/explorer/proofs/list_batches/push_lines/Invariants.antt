use Rattle.std.proofs.Common.{◌≡◌, ◌+◌, ◌++◌, take}
use Rattle.explorer.specs.ListBatches.{batch_lines}
use Rattle.explorer.proofs.list_batches.push_lines.Given as goal

-- the batches before this one are listed
abbrev pub invariant-loop-n : goal.invariant-loop-n
invariant-loop-n g l = l.lines.items ≡ l.fn.lines.items ++ batch_lines (l.segment.span.first + 1) (take l.n l.segment.span.batches)

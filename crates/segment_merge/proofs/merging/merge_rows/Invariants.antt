use Rattle.std.proofs.Common.{◌≡◌, ◌+◌, ◌++◌, length}
use Rattle.segment_merge.specs.Merged.{merged}
use Rattle.segment_merge.proofs.merging.merge_rows.Given as goal

abbrev pub invariant-loop-order : goal.invariant-loop-order
invariant-loop-order g l = l.packed.rows ++ merged l.left l.right ≡ merged l.initial.left l.initial.right

abbrev pub decreases-loop-order : goal.decreases-loop-order
decreases-loop-order g l = length l.left + length l.right

use Rattle.std.proofs.Common.{ℕ, ◌+◌, ◌<◌, ◌^◌, slice_index_or}
use Rattle.best_lists.specs.declared.entry.Entry.{Entry}
use Rattle.segment_blocks.proofs.moved_row.have_room.Given as goal

abbrev pub invariant-loop-entry : goal.invariant-loop-entry
invariant-loop-entry l =
    (k : ℕ) (d : Entry) → k < l.entry-index → (slice_index_or l.entries k d).number + l.fn.by < 2 ^ 32

use Rattle.std.proofs.Common.{◌≡◌, ◌++◌}
use Rattle.segment_blocks.specs.PackedRows.{rows_of_parts}
use Rattle.segment_blocks.proofs.packed_rows.PackedRows.of_parts.Given as goal

abbrev pub invariant-loop-part : goal.invariant-loop-part
invariant-loop-part l =
    l.all.rows ++ rows_of_parts l.part-iterator.rest.items ≡ rows_of_parts l.fn.parts.items

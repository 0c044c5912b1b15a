use Rattle.std.proofs.Common.{◌≡◌, ◌≤◌, take, length}
use Rattle.std.specs.List.{flat_map}
use Rattle.segment_blocks.proofs.packed_rows.PackedRows.of.Given as goal

abbrev pub invariant-loop-part : goal.invariant-loop-part
invariant-loop-part l = record {
  within : l.part-index ≤ length l.parts;
  packed : l.packed.rows ≡ flat_map (λ part. part.items) (take l.part-index l.parts);
}

use Rattle.std.proofs.Common.{◌≡◌, ◌≤◌, take, length}
use Rattle.segment_tests.proofs.tests.blocks.pack_rows.Given as goal

abbrev pub invariant-loop-row : goal.invariant-loop-row
invariant-loop-row l = record {
  within : l.row-index ≤ length l.rows;
  packed : l.packed.rows ≡ take l.row-index l.rows;
}

use Rattle.std.proofs.Common.{◌≡◌, ◌≤◌, ◌++◌, take, length}
use Rattle.segment_blocks.proofs.packed_rows.PackedRows.push_all.Given as goal

abbrev pub invariant-loop-row : goal.invariant-loop-row
invariant-loop-row l = record {
  within : l.row-index ≤ length l.rows;
  packed : l.self.rows ≡ l.initial.self.rows ++ take l.row-index l.rows;
}

use Rattle.std.proofs.Common.{◌≡◌, ◌++◌, take}
use Rattle.std.specs.List.{AllByRecursion, flat_map}
use Rattle.spill_blobs.specs.RowBlocks.{entry_bytes, Fits}
use Rattle.spill_blobs.proofs.row_bytes.put_entries.Given as goal

abbrev pub invariant-loop-entry : goal.invariant-loop-entry
invariant-loop-entry l = record {
  bytes : l.bytes.items ≡ l.initial.bytes.items ++ flat_map entry_bytes (take l.entry-index l.entries);
  fit : AllByRecursion Fits (take l.entry-index l.entries);
}

use Rattle.std.proofs.Common.{◌≡◌, ◌≤◌, length, take}
use Rattle.std.specs.List.{All}
use Rattle.tally_rows.specs.declared.single.Single.{Single}
use Rattle.tally_rows.specs.SortEntry.{picked, IsEntryIn}
use Rattle.tally_rows.proofs.rows.entries_of.Given as goal

abbrev pub invariant-loop-single : goal.invariant-loop-single
invariant-loop-single l = record {
  within : l.single-index ≤ length l.singles;
  long : length l.entries.items ≡ l.single-index;
  all : (other : Single) → picked l.singles l.entries.items other ≡ take l.single-index l.singles;
  told : (other : Single) → All (IsEntryIn l.singles other) l.entries.items;
}

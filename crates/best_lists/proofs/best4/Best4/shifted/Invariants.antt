use Rattle.std.proofs.Common.{◌≡◌, ◌≤◌, length, map, take}
use Rattle.best_lists.specs.Entry.{moved_by}
use Rattle.best_lists.proofs.best4.Best4.shifted.Given as goal

abbrev pub invariant-loop-entry : goal.invariant-loop-entry
invariant-loop-entry g l =
    record {
      within : l.entry-index ≤ length l.entry-items;
      moved : l.entries.items ≡ map (moved_by l.by) (take l.entry-index l.entry-items);
    }

-- Bridge: an entry whose number is moved.
use Rattle.std.specs.Prelude.{ℕ, ◌+◌}
use Rattle.best_lists.specs.declared.entry.Entry.{Entry}

-- the same entry at a number that is greater by so much
abbrev pub moved_by : ℕ → Entry → Entry
moved_by by entry = record { rank = entry.rank; number = entry.number + by }

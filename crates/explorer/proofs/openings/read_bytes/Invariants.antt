use Rattle.std.proofs.Common.{◌≡◌, ◌≤◌, ◌+◌, ◌-◌, length}
use Rattle.outside.specs.Stream.{Reads}
use Rattle.explorer.specs.Book.{openings_limit}
use Rattle.explorer.proofs.openings.read_bytes.Given as goal

abbrev pub invariant-reading : goal.invariant-reading
invariant-reading g l = record {
  reads : Reads l.bytes.items (g.S.Source.source l.fn.source) (g.S.Source.source l.source);
  few : length l.bytes.items ≤ openings_limit;
  came : (g.S.Source.source l.source).read_faults ≡ (g.S.Source.source l.fn.source).read_faults;
}

abbrev pub decreases-reading : goal.decreases-reading
decreases-reading g l = openings_limit + 1 - length l.bytes.items

use Rattle.std.proofs.Common.{◌≡◌}
use Rattle.published_index.proofs.places.UnnamedPlaces.of.Given as goal

abbrev pub invariant-loop : goal.invariant-loop
invariant-loop g l = l.places.count ≡ l.counter

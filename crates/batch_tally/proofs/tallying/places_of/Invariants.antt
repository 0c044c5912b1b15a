use Rattle.std.proofs.Common.{◌≡◌, map, take}
use Rattle.batch_tally.proofs.tallying.places_of.Given as goal

abbrev pub invariant-loop-text : goal.invariant-loop-text
invariant-loop-text l = l.places.items ≡ map (λ a. a.place) (take l.text-index l.accepted)

use Rattle.std.proofs.Common.{take}
use Rattle.opening_names.specs.Held.{TellsPlaces}
use Rattle.opening_names.proofs.places.places_of.Given as goal

abbrev pub invariant-loop-place : goal.invariant-loop-place
invariant-loop-place l = TellsPlaces l.places (take l.place l.lines)

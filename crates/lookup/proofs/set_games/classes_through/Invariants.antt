use Rattle.std.proofs.Common.{◌≡◌, drop}
use Rattle.std.specs.List.{slice_get}
use Rattle.row_sums.specs.Listing.{classes_in}
use Rattle.lookup.proofs.set_games.classes_through.Given as goal

abbrev pub invariant-loop-part : goal.invariant-loop-part
invariant-loop-part l = slice_get (classes_in (drop l.part l.set)) l.left ≡ slice_get (classes_in l.set) l.number

use Rattle.std.proofs.Common.{◌≡◌, drop, map}
use Rattle.std.specs.Arc.{arc_value}
use Rattle.std.specs.List.{slice_get}
use Rattle.row_sums.specs.Listing.{classes_in}
use Rattle.row_sums.proofs.classes.classes_of.Given as goal

abbrev pub invariant-loop-segment : goal.invariant-loop-segment
invariant-loop-segment l =
    slice_get (classes_in (drop l.segment-index (map arc_value l.segments))) l.left ≡ slice_get (classes_in (map arc_value l.segments)) l.number

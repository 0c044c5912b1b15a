use Rattle.std.proofs.Common.{map, take}
use Rattle.std.specs.Arc.{arc_value}
use Rattle.std.specs.List.{AllZip}
use Rattle.player_lookup.specs.Made.{IsLineFrom}
use Rattle.row_sums.specs.Listing.{classes_in}
use Rattle.player_lookup.proofs.lines.lines_of.Given as goal

abbrev pub invariant-loop-sum : goal.invariant-loop-sum
invariant-loop-sum l =
    AllZip (IsLineFrom l.board (classes_in (map arc_value l.segments))) (take l.sum-index l.sums) l.lines.items

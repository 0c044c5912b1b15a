use Rattle.std.proofs.Common.{◌≡◌, map, take}
use Rattle.row_sums.specs.Groups.{Tells}
use Rattle.row_sums.specs.GroupSums.{move_number}
use Rattle.row_sums.specs.Hits.{hit_as}
use Rattle.row_sums.specs.MoveSums.{sum_as}
use Rattle.row_sums.specs.Sums.{moves_in}
use Rattle.row_sums.proofs.moves.sums_of_moves.Given as goal

abbrev pub invariant-loop-hit : goal.invariant-loop-hit
invariant-loop-hit l =
    let hits = take l.hit-index (map hit_as l.hits) in
    record {
      sums : l.sums.items ≡ map (sum_as hits) (moves_in hits);
      places : Tells l.places (map move_number (moves_in hits));
    }

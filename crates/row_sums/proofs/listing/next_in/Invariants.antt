use Rattle.std.proofs.Common.{◌≡◌, map, drop}
use Rattle.row_sums.specs.Hits.{hit_as}
use Rattle.row_sums.specs.Listing.{list_of, next_where}
use Rattle.row_sums.proofs.listing.next_in.Given as goal

abbrev pub invariant-loop-hit : goal.invariant-loop-hit
invariant-loop-hit l =
    next_where (list_of l.list) (drop l.hit-index (map hit_as l.hits)) l.number ≡ next_where (list_of l.list) (map hit_as l.hits) l.number

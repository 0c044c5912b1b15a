use Rattle.std.proofs.Common.{◌≡◌, map, take}
use Rattle.row_sums.specs.Hits.{hit_as}
use Rattle.row_sums.specs.Sums.{any_row, totals_where}
use Rattle.row_sums.proofs.totals.totals_of.Given as goal

abbrev pub invariant-loop-hit : goal.invariant-loop-hit
invariant-loop-hit l = l.totals ≡ totals_where (take l.hit-index (map hit_as l.hits)) any_row

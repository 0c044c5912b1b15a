use Rattle.std.proofs.Common.{◌≡◌, ◌++◌, map, take}
use Rattle.lookup.proofs.ReadHits.{picked}
use Rattle.row_sums.specs.Hits.{hit_as}
use Rattle.tally_rows.specs.Cover.{passes_row_key}
use Rattle.lookup.proofs.part_rows.add_hits.Given as goal

abbrev pub invariant-loop-row : goal.invariant-loop-row
invariant-loop-row l =
    map hit_as l.hits.items ≡ map hit_as l.initial.hits.items ++ picked (passes_row_key l.wanted) l.part.first (take l.row-index l.rows)

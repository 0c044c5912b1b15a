use Rattle.std.proofs.Common.{◌≡◌, map, take}
use Rattle.lookup.specs.Reading.{hits_in}
use Rattle.row_sums.specs.Hits.{hit_as}
use Rattle.tally_rows.specs.Cover.{passes_row_key}
use Rattle.lookup.proofs.part_rows.hits_of.Given as goal

abbrev pub invariant-loop-part : goal.invariant-loop-part
invariant-loop-part l = map hit_as l.hits.items ≡ hits_in (passes_row_key l.wanted) (take l.part-index l.parts)

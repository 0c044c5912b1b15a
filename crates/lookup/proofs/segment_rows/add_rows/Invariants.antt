use Rattle.std.proofs.Common.{◌≡◌, ◌+◌, ◌++◌, map, filter, length}
use Rattle.row_sums.specs.Hits.{hit_as}
use Rattle.lookup.proofs.Numbered.{numbered}
use Rattle.tally_rows.specs.Cover.{passes_row_key}
use Rattle.tally_rows.specs.Row.{row_key_of}
use Rattle.lookup.proofs.segment_rows.add_rows.Given as goal

abbrev pub decreases-loop-row : goal.decreases-loop-row
decreases-loop-row g l = length l.walk

abbrev pub invariant-loop-row : goal.invariant-loop-row
invariant-loop-row g l = record {
  rows : map hit_as l.hits.items ++ map (numbered l.first) (filter (λ row. passes_row_key l.wanted (row_key_of row)) l.walk)
      ≡ map hit_as l.initial.hits.items ++ map (numbered l.first) (filter (λ row. passes_row_key l.wanted (row_key_of row)) l.initial.walk);
  steps : l.steps + length l.walk ≡ l.initial.steps + length l.initial.walk;
}

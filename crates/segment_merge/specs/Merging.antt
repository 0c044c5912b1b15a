-- Statement: two segments as one.
use Rattle.std.specs.Prelude.{◌≡◌, ℕ, List, None, ◌++◌, map, length}
use Rattle.tally_rows.specs.declared.row.Row.{Row}
use Rattle.tally_rows.specs.Row.{shifted_row}
use Rattle.segment_blocks.specs.Segment.{CountedSpan, IsTallyOfBoth, span_of_both}
use Rattle.segment_merge.specs.Merged.{merged}
use Rattle.segment_merge.specs.Ranges.{merged_ranges, rows_in_range}

-- the rows of both, where the games of the right side have numbers behind those of the left
abbrev pub rows_of_both : CountedSpan → CountedSpan → List Row
rows_of_both left right =
    merged left.rows (map (shifted_row (length left.classes)) right.rows)

-- what is merged of both in range `n` between keys
abbrev pub merged_in_range : List (List ℕ) → ℕ → CountedSpan → CountedSpan → List Row
merged_in_range keys n left right =
    merged (map (shifted_row 0) (rows_in_range keys n left.rows))
    (map (shifted_row (length left.classes)) (rows_in_range keys n right.rows))

-- what is merged of each range between keys
abbrev pub ranges_of_both : List (List ℕ) → CountedSpan → CountedSpan → List (List Row)
ranges_of_both keys left right =
    merged_ranges None keys left.rows (map (shifted_row (length left.classes)) right.rows)

-- The segment of both spans. Of how its rows were made, and by how many workers, nothing depends.
pub record IsMergeOf (left right segment : CountedSpan) : Type 0 where
  pub span : segment.span ≡ span_of_both left.span right.span
  pub classes : segment.classes ≡ left.classes ++ right.classes
  pub rows : segment.rows ≡ rows_of_both left right
  pub tally : IsTallyOfBoth left right segment.rows

use Rattle.std.proofs.Common.{◌≡◌, ℕ, ◌+◌, ◌<◌, ◌≤◌, ◌^◌, ◌*◌, length, map, take}
use Rattle.std.specs.Arc.{arc_value}
use Rattle.std.specs.List.{All, AllByRecursion, sum_by}
use Rattle.row_sums.specs.Hits.{hit_as}
use Rattle.lookup.specs.Hits.{rows_from, games_counted}
use Rattle.lookup.specs.Parts.{IsPart, segment_part}
use Rattle.lookup.specs.SegmentRows.{row_steps}
use Rattle.segment_blocks.specs.Segment.{CountedSpan}
use Rattle.tally_rows.specs.Cover.{passes_row_key}
use Rattle.lookup.proofs.segment_rows.rows_of_segments.Given as goal

abbrev pub invariant-loop-segment : goal.invariant-loop-segment
invariant-loop-segment g l = record {
  rows : map hit_as l.hits.items ≡ rows_from l.key (passes_row_key l.wanted) 0 (take l.segment-index (map segment_part (map arc_value l.segments)));
  within : l.segment-index ≤ length l.segments;
  room : l.first ≤ 262144 * l.segment-index;
  first : l.first ≡ games_counted (take l.segment-index (map segment_part (map arc_value l.segments)));
  parts : AllByRecursion IsPart (take l.segment-index (map segment_part (map arc_value l.segments)));
  cost : (digits : CountedSpan → ℕ) → All (λ segment. segment.blocks < 2 ^ digits segment) (map arc_value l.segments)
      → l.steps ≤ l.initial.steps + sum_by (row_steps l.key digits) (take l.segment-index (map arc_value l.segments));
}

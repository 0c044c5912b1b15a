use Rattle.std.proofs.Common.{◌≡◌, ◌*◌, ◌≤◌, length, map, take}
use Rattle.std.specs.Arc.{arc_value}
use Rattle.std.specs.List.{AllByRecursion}
use Rattle.row_sums.specs.Listing.{classes_in}
use Rattle.segment_blocks.specs.Segment.{IsSegment}
use Rattle.row_sums.proofs.classes.count_games.Given as goal

abbrev pub invariant-loop-segment : goal.invariant-loop-segment
invariant-loop-segment l = record {
  within : l.segment-index ≤ length l.segments;
  room : l.games ≤ 262144 * l.segment-index;
  games : l.games ≡ length (classes_in (take l.segment-index (map arc_value l.segments)));
  segments : AllByRecursion IsSegment (take l.segment-index (map arc_value l.segments));
}

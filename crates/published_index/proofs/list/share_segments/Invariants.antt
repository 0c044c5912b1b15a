use Rattle.std.proofs.Common.{◌≡◌, ◌≤◌, take, length, map}
use Rattle.std.specs.Arc.{arc_value}
use Rattle.published_index.proofs.list.share_segments.Given as goal

abbrev pub invariant-loop-segment : goal.invariant-loop-segment
invariant-loop-segment l = record {
  within : l.segment-index ≤ length l.segments;
  shares : map arc_value l.room.items ≡ map arc_value (take l.segment-index l.segments);
}

use Rattle.std.proofs.Common.{map}
use Rattle.std.specs.Arc.{arc_value}
use Rattle.player_lookup.proofs.SegmentLemmas.{IsLeft}
use Rattle.player_lookup.proofs.segments.segment_of.Given as goal

abbrev pub invariant-loop-segment : goal.invariant-loop-segment
invariant-loop-segment l = IsLeft (map arc_value l.segments) l.number l.segment-index l.left

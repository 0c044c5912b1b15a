use Rattle.std.proofs.Common.{◌≡◌, take, map}
use Rattle.std.specs.Arc.{arc_value}
use Rattle.ingest_desk.specs.Installs.{place_of}
use Rattle.ingest_desk.proofs.picking.spans_of.Given as goal

abbrev pub invariant-loop-segment : goal.invariant-loop-segment
invariant-loop-segment l =
    l.spans.items ≡ map place_of (map arc_value (take l.segment-index l.segments))

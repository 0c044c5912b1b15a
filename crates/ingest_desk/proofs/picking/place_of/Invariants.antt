use Rattle.std.proofs.Common.{◌≤◌, ◌-◌, length, map}
use Rattle.std.specs.Arc.{arc_value}
use Rattle.ingest_desk.proofs.PickingLemmas.{AreNotFrom}
use Rattle.ingest_desk.proofs.picking.place_of.Given as goal

abbrev pub invariant-loop-at : goal.invariant-loop-at
invariant-loop-at l = record {
  within : l.at ≤ length l.segments - 1;
  none : AreNotFrom l.at (map arc_value l.segments) l.left.span l.right.span;
}

abbrev pub decreases-loop-at : goal.decreases-loop-at
decreases-loop-at l = l.at

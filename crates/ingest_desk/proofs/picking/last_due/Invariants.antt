use Rattle.std.proofs.Common.{◌≤◌, ◌-◌, length, map}
use Rattle.std.specs.Arc.{arc_value}
use Rattle.ingest_desk.proofs.PickingLemmas.{AreSteepFrom}
use Rattle.ingest_desk.proofs.picking.last_due.Given as goal

abbrev pub invariant-loop-at : goal.invariant-loop-at
invariant-loop-at l = record {
  within : l.at ≤ length l.segments - 1;
  steep : AreSteepFrom l.at (map arc_value l.segments);
}

abbrev pub decreases-loop-at : goal.decreases-loop-at
decreases-loop-at l = l.at

use Rattle.std.proofs.Common.{◌-◌, ◌≤◌, length}
use Rattle.http_wire.proofs.Bodies.{Filled}
use Rattle.http_wire.proofs.body.read_rest.Given as goal

abbrev pub invariant-loop-at : goal.invariant-loop-at
invariant-loop-at g l = record {
  within : l.at ≤ length l.body;
  filled : Filled l.start l.at l.initial.body l.body (g.L.Source.source l.initial.link) (g.L.Source.source l.link);
}

abbrev pub decreases-loop-at : goal.decreases-loop-at
decreases-loop-at g l = length l.body - l.at

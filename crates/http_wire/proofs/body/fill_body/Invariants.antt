use Rattle.std.proofs.Common.{◌-◌, ◌≤◌, length}
use Rattle.http_wire.specs.Steps.{Grows}
use Rattle.http_wire.proofs.body.fill_body.Given as goal

abbrev pub invariant-loop-body : goal.invariant-loop-body
invariant-loop-body g l = record {
  within : length l.body.items ≤ l.count;
  grows : Grows l.initial.body.items l.body.items (g.L.Source.source l.initial.link) (g.L.Source.source l.link);
}

abbrev pub decreases-loop-body : goal.decreases-loop-body
decreases-loop-body g l = l.count - length l.body.items

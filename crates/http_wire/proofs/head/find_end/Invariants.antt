use Rattle.std.proofs.Common.{◌-◌, ◌<◌, ◌≤◌, length, take}
use Rattle.http_wire.specs.Scanning.{IsScanned}
use Rattle.http_wire.proofs.Growing.{Grows}
use Rattle.http_wire.proofs.head.find_end.Given as goal

abbrev pub invariant-ends : goal.invariant-ends
invariant-ends g l = record {
  grows : Grows l.initial.ahead l.ahead (g.L.Source.source l.initial.link) (g.L.Source.source l.link);
  begun : 0 < length l.ahead;
  within : l.scan.at ≤ length l.ahead;
  scanned : IsScanned (take l.scan.at l.ahead) l.scan.lines l.scan.stage;
}

abbrev pub decreases-ends : goal.decreases-ends
decreases-ends g l = 8192 - length l.ahead

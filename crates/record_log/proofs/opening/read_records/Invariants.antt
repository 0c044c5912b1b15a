use Rattle.std.proofs.Common.{◌≡◌, ◌-◌, IfSome}
use Rattle.disk_model.specs.Disk.{IsQuiet}
use Rattle.record_log.specs.Reading.{IsUpTo, BeginsWith}
use Rattle.record_log.proofs.opening.read_records.Given as goal

abbrev pub invariant-loop-payloads : goal.invariant-loop-payloads
invariant-loop-payloads g l = record {
  quiet : IsQuiet g.D.Disk.disk g.D.Disk.left_since l.fn.disk l.disk;
  no_fault : (g.D.Disk.disk l.disk).faults ≡ (g.D.Disk.disk l.fn.disk).faults;
  up_to : IsUpTo l.format l.size l.gate l.payloads.items;
  begins : IfSome (g.D.Disk.disk l.fn.disk).content (BeginsWith l.format l.payloads.items l.gate);
}

abbrev pub decreases-loop-payloads : goal.decreases-loop-payloads
decreases-loop-payloads g l = l.size - l.gate

use Rattle.std.proofs.Common.{◌-◌, ◌≤◌, length, take}
use Rattle.http_wire.specs.Scanning.{IsScanned}
use Rattle.http_wire.proofs.head.Scan.advance.Given as goal

abbrev pub invariant-loop-byte : goal.invariant-loop-byte
invariant-loop-byte l = record {
  within : l.self.at ≤ length l.text;
  scanned : IsScanned (take l.self.at l.text) l.self.lines l.self.stage;
}

abbrev pub decreases-loop-byte : goal.decreases-loop-byte
decreases-loop-byte l = length l.text - l.self.at

use Rattle.std.proofs.Common.{arith}
use Rattle.http_wire.proofs.Growing.{grows-none}
use Rattle.http_wire.proofs.head.find_end.Goals as goal

pub ends-init : goal.ends-init
ends-init g c = record {
  grows = grows-none c.args.ahead.now _;
  begun = c.requires.begun;
  within = omega (arith, c.new-scan.ensures.at);
  scanned = rw c.new-scan.ensures.at (c.new-scan.ensures.scanned c.args.ahead.now);
}

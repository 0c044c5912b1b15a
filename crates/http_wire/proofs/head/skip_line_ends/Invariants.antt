use Rattle.std.proofs.Common.{◌+◌, ◌-◌, ◌<◌, length}
use Rattle.http_wire.proofs.Growing.{Blanked}
use Rattle.http_wire.proofs.head.skip_line_ends.Given as goal

abbrev pub invariant-blank : goal.invariant-blank
invariant-blank g l = record {
  blanked : Blanked l.skipped l.initial.ahead l.ahead (g.L.Source.source l.initial.link) (g.L.Source.source l.link);
  few : l.skipped < 8192;
}

abbrev pub decreases-blank : goal.decreases-blank
decreases-blank g l = (8192 - l.skipped) + (1 - length l.ahead)

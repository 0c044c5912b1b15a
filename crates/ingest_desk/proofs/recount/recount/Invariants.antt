use Rattle.std.proofs.Common.{map}
use Rattle.std.specs.Arc.{arc_value}
use Rattle.ingest_desk.proofs.CountingLemmas.{Reaches}
use Rattle.ingest_desk.proofs.recount.recount.Given as goal

abbrev pub invariant-loop-size : goal.invariant-loop-size
invariant-loop-size g l =
    Reaches l.fn.journal.items l.gate l.register (map arc_value l.segments.items) l.size-iterator.rest.items

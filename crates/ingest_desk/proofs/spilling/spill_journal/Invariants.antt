use Rattle.std.proofs.Common.{◌≡◌}
use Rattle.spill_blobs.specs.Sets.{set_bytes, HasJust}
use Rattle.ingest_desk.proofs.SpillLemmas.{IsSpilledUpTo}
use Rattle.ingest_desk.proofs.spilling.spill_journal.Given as goal

abbrev pub invariant-loop-batch : goal.invariant-loop-batch
invariant-loop-batch g l = record {
  spilled : IsSpilledUpTo l.fn.journal.items l.gate l.register l.set l.batch-iterator.rest.items;
  just : HasJust (g.P.Port.port l.port) (set_bytes l.set);
  faults : (g.P.Port.port l.port).faults ≡ (g.P.Port.port l.fn.port).faults;
}

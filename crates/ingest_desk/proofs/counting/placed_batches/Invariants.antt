use Rattle.std.proofs.Common.{length}
use Rattle.ingest_desk.specs.Recounts.{IsAt}
use Rattle.ingest_desk.proofs.CountingLemmas.{LeadFrom}
use Rattle.ingest_desk.proofs.counting.placed_batches.Given as goal

abbrev pub invariant-loop-batch : goal.invariant-loop-batch
invariant-loop-batch l = LeadFrom IsAt l.fn.journal.items l.batches.items (length l.batches.items) l.batch-iterator.rest.items

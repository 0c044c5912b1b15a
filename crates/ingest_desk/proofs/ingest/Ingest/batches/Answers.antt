use Rattle.std.proofs.Common.{◌∙◌}
use Rattle.ingest_desk.proofs.ingest.Ingest.batches.Goals as goal

pub returns-clause-batches : goal.returns-clause-batches
returns-clause-batches g c =
    let s = c.self in rw (← s.view_is) (c.batches.ensures ∙ s.invariant.knows.batches)

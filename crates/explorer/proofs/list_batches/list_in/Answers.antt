use Rattle.std.proofs.Common.{subst}
use Rattle.published_index.specs.Cover.{journal_of}
use Rattle.published_index.specs.States.{Publishing}
use Rattle.ingest_desk.specs.Stored.{Stored}
use Rattle.explorer.specs.ListBatches.{ListsIn}
use Rattle.explorer.proofs.list_batches.list_in.Goals as goal

pub returns-in-Ok-clause-lines : goal.returns-in-Ok-clause-lines
returns-in-Ok-clause-lines g c =
    subst (λ (s : Stored g.row.D.Denot). ListsIn (journal_of s.index.list) c.lines_in-lines.result) c.in-Ok.ensures.ingest
    (subst (λ (p : Publishing). ListsIn (journal_of p.list) c.lines_in-lines.result) c.publisher.ensures c.lines_in-lines.ensures)

use Rattle.std.proofs.Common.{subst}
use Rattle.published_index.specs.Cover.{journal_of}
use Rattle.published_index.specs.States.{Publishing}
use Rattle.ingest_desk.specs.Stored.{Stored}
use Rattle.explorer.specs.Query.Store.{LooksIn}
use Rattle.explorer.proofs.query.store.look_in.Goals as goal

pub returns-in-Ok-clause-line : goal.returns-in-Ok-clause-line
returns-in-Ok-clause-line g c =
    subst (λ (s : Stored g.row.D.Denot). LooksIn c.args.book.now c.args.query.now (journal_of s.index.list) c.line_in-line.result) c.in-Ok.ensures.ingest
    (subst (λ (p : Publishing). LooksIn c.args.book.now c.args.query.now (journal_of p.list) c.line_in-line.result) c.publisher.ensures c.line_in-line.ensures)

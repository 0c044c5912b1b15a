use Rattle.std.proofs.Common.{drop}
use Rattle.explorer_model.proofs.Timelines.{prefix-trans}
use Rattle.published_index.proofs.WriterLemmas.{within-journal}
use Rattle.published_index.proofs.list_writer.ListWriter.confirm.Goals as goal

pub returns-clause-seen : goal.returns-clause-seen
returns-clause-seen c =
    let s = c.self in
    let shown = s.inside.writer.desk.shown.value in
    let operations = drop s.inside.writer.behind s.inside.writer.log.items in
    let within = within-journal shown.list shown.front s.inside.history s.inside.held operations s.invariant.waits in
    rw (← s.view_is) (prefix-trans c.args.front.now.log s.inside.history.log _ c.confirm.ensures.seen within)

use Rattle.std.proofs.Common.{Some}
use Rattle.explorer_model.proofs.Timelines.{prefix-trans}
use Rattle.ingest_desk.specs.Stored.{journal}
use Rattle.explorer.proofs.ServeLemmas.WorkerLists.{notes-grow, receipts-grow, report-grows}
use Rattle.explorer.proofs.serve.returning.learn_report.Goals as goal

pub returns-clause-told : goal.returns-clause-told
returns-clause-told g c = λ some. rw c.in-Some-report.is (report-grows (Some c.in-Some-report.report) c.learn_end.new.pass.seen (journal c.args.ingest.now)
    c.confirm.ensures.seen (
      receipts-grow c.in-Some-report.report.receipts.items c.learn_receipts.new.pass.seen c.learn_end.new.pass.seen
          (prefix-trans c.learn_receipts.new.pass.seen c.learn_notes.new.pass.seen c.learn_end.new.pass.seen
          c.learn_notes.ensures.grew c.learn_end.ensures.grew) c.learn_receipts.ensures.knows,
      notes-grow c.in-Some-report.report.clashes.items c.learn_notes.new.pass.seen c.learn_end.new.pass.seen
          c.learn_end.ensures.grew c.learn_notes.ensures.knows,
      c.learn_end.ensures.knows,
    ))

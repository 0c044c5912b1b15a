use Rattle.std.proofs.Common.{List, subst}
use Rattle.explorer_model.specs.declared.archive.Batch.{Batch}
use Rattle.explorer_model.specs.Timeline.{IsPrefix}
use Rattle.explorer_model.proofs.Timelines.{prefix-trans}
use Rattle.session.proofs.KnownNotes.{knows-more}
use Rattle.session.proofs.importing.learn_receipts.Goals as goal

pub loop-receipt-preserved : goal.loop-receipt-preserved
loop-receipt-preserved g c =
    let l = c.learn.ensures in
    let told = subst (λ (note : List Batch). IsPrefix note c.learn.new.self.seen) c.into_note.ensures l.told in
    record {
      knows = knows-more (λ receipt. receipt.note) c.args.receipts.items c.loop-receipt.rest.items c.pop.new.self.items c.in-Some.receipt c.loop-receipt.pass.seen c.learn.new.self.seen c.in-Some.ensures.items l.before told c.loop-receipt.invariant.knows;
      grew = prefix-trans c.args.pass.now.seen c.loop-receipt.pass.seen c.learn.new.self.seen c.loop-receipt.invariant.grew l.before;
      readings = rw (l.entered, l.unread) c.loop-receipt.invariant.readings;
    }

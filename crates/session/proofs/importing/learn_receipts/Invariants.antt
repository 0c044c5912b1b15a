use Rattle.std.proofs.Common.{◌≡◌}
use Rattle.explorer_model.specs.Timeline.{IsPrefix}
use Rattle.session.specs.Replies.{readings_of}
use Rattle.session.proofs.KnownNotes.{Knows}
use Rattle.session.proofs.importing.learn_receipts.Given as goal

abbrev pub invariant-loop-receipt : goal.invariant-loop-receipt
invariant-loop-receipt g l = record {
  knows : Knows (λ receipt. receipt.note) l.fn.receipts.items l.rest.items l.pass.seen;
  grew : IsPrefix l.fn.pass.seen l.pass.seen;
  readings : readings_of l.pass ≡ readings_of l.fn.pass;
}

abbrev pub decreases-loop-receipt : goal.decreases-loop-receipt
decreases-loop-receipt g l = goal.left-loop-receipt g l

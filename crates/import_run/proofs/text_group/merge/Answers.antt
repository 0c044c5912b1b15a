use Rattle.std.proofs.Common.{inl, inr}
use Rattle.import_run.proofs.MergeLemmas.{merge_end}
use Rattle.import_run.proofs.text_group.merge.Goals.{then-merging-test+else-next-unread, else-merging-test}
use Rattle.import_run.proofs.text_group.merge.Goals as goal

pub returns : goal.returns
returns c = merge_end c.merging.all.items _ _ _ c.args.texts.now c.args.unread.now c.merging.at c.merging.next
    (elim c.merging-test.branch [ then-merging-test+else-next-unread w ↦ inr w.if-next-unread.false | else-merging-test w ↦ inl w.merging-test.false ])
    c.merging.invariant.so_far c.in_ok-extend_from_slice.ensures.items c.in_ok-extend_from_slice-2.ensures.items

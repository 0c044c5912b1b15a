use Rattle.std.proofs.Common.{◌≡◌, ◌++◌, sym, subst, ◌∙◌}
use Rattle.segment_blocks.specs.HeldBatches.{all_batches, all_classes, counted_span}
use Rattle.segment_blocks.specs.Segment.{CanJoin, IsTallyOfBoth}
use Rattle.segment_blocks.proofs.SegmentLemmas.{IsHeld-both}
use Rattle.segment_blocks.proofs.segment.Segment.of_both.Goals as goal

pub invariant_of-result : goal.invariant_of-result
invariant_of-result c =
    let l = c.left.inside in
    let r = c.right.inside in
    let rows = c.in_ok-rows.rows in
    let one = c.in_ok-share_all.ensures in
    let two = c.in_ok-share_all-2.ensures in
    let batches : all_batches c.share_all-2.new.batches.items ≡ all_batches l.batches.items ++ all_batches r.batches.items =
    two.batches ∙ (λ j. (one.batches ∙ (λ k. all_batches (c.new-batches.ensures.items k) ++ all_batches (c.as_slice.ensures.value k))) j
    ++ all_batches (c.as_slice-2.ensures.value j)) in
    let classes : all_classes c.share_all-2.new.batches.items ≡ all_classes l.batches.items ++ all_classes r.batches.items =
    two.classes ∙ (λ j. (one.classes ∙ (λ k. all_classes (c.new-batches.ensures.items k) ++ all_classes (c.as_slice.ensures.value k))) j
    ++ all_classes (c.as_slice-2.ensures.value j)) in
    let spans : CanJoin (counted_span l.first l.batches.items l.rows) (counted_span r.first r.batches.items r.rows) =
    rw (c.left.view_is, c.right.view_is) c.requires.spans in
    let left = counted_span l.first l.batches.items l.rows in
    let right = counted_span r.first r.batches.items r.rows in
    let tally : IsTallyOfBoth left right rows.rows =
    subst (λ s. IsTallyOfBoth s right rows.rows) (sym c.left.view_is)
    (subst (λ s. IsTallyOfBoth c.args.left.now s rows.rows) (sym c.right.view_is)
    (subst (IsTallyOfBoth c.args.left.now c.args.right.now) (sym c.in_ok-rows.ensures) c.requires.tally)) in
    IsHeld-both l.first r.first l.batches.items r.batches.items c.share_all-2.new.batches.items l.rows r.rows rows batches classes
    l.games r.games c.left.invariant c.right.invariant spans tally two.stand c.block_count-blocks.ensures.blocks

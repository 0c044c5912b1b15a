use Rattle.std.proofs.Common.{ap, ◌∙◌}
use Rattle.segment_blocks.specs.Encoded.{row_key_at}
use Rattle.tally_rows.specs.RowKey.{row_order}
use Rattle.segment_blocks.proofs.LaneLemmas.{next-of-mark}
use Rattle.segment_blocks.proofs.both.order_at_same_key.Goals as goal

pub returns : goal.returns
returns c a b left_is right_is =
    let q = c.requires in
    let first = next-of-mark c.args.left.now q.left_filled q.left_own _ _ c.in-Some.ensures.cases.0 _ c.in-Some-Some.is-0 a left_is in
    let second = next-of-mark c.args.right.now q.right_filled q.right_own _ _ c.in-Some-split_first.ensures.cases.0 _ c.in-Some-Some.is-1 b right_is in
    c.order_of_marks.ensures c.args.left.now.before
    ∙ (λ i. row_order (first i) ((ap (λ k. row_key_at k c.in-Some-split_first.b.now) q.same ∙ second) i))

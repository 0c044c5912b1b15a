use Rattle.std.proofs.Common.{◌≡◌, unwrap_or, sym, ap, ◌∙◌}
use Rattle.tally_rows.specs.RowKey.{row_order}
use Rattle.segment_blocks.proofs.LaneLemmas.{next-key}
use Rattle.segment_blocks.proofs.both.order_with_whole.Goals as goal

pub order_at_a_key-requires : goal.order_at_a_key-requires
order_at_a_key-requires c =
    let q = c.requires in
    next-key c.args.left.now q.left_filled q.left_own c.in-Some.first (sym c.in-Some.ensures)
    ∙ q.same ∙ sym (next-key c.args.right.now q.right_filled q.right_own c.in-Some-next_row_key.second (sym c.in-Some-next_row_key.ensures))

pub returns : goal.returns
returns c a b left_is right_is =
    let first : c.in-Some.first ≡ a = ap (λ o. unwrap_or o a) (c.in-Some.ensures ∙ left_is) in
    let second : c.in-Some-next_row_key.second ≡ b = ap (λ o. unwrap_or o b) (c.in-Some-next_row_key.ensures ∙ right_is) in
    c.order_at_a_key.ensures ∙ (λ i. row_order (first i) (second i))

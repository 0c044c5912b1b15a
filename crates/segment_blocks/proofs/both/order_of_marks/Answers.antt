use Rattle.std.proofs.Common.{refl, sym, ◌∙◌}
use Rattle.segment_blocks.specs.Encoded.{row_key_at}
use Rattle.tally_rows.specs.RowKey.{row_order}
use Rattle.segment_blocks.proofs.KeyOrderLemmas.{row_order-at-a-key}
use Rattle.segment_blocks.proofs.both.order_of_marks.Goals as goal

pub returns : goal.returns
returns c key =
    c.order_at_a_key.ensures
    ∙ (λ i. row_order (c.row_key_at.ensures i) (c.row_key_at-2.ensures i))
    ∙ row_order-at-a-key _ _ refl
    ∙ sym (row_order-at-a-key (row_key_at key c.args.a.now) (row_key_at key c.args.b.now) refl)

use Rattle.std.proofs.Common.{sym, ◌∙◌}
use Rattle.std.specs.Ordering.{ordering_then}
use Rattle.segment_blocks.proofs.KeyOrderLemmas.{row_order-by-move, row_order-by-month, row_order-by-class}
use Rattle.segment_blocks.proofs.key_order.order_at_a_key.Goals as goal

pub returns-in_default : goal.returns-in_default
returns-in_default c = row_order-by-move c.args.a.now c.args.b.now c.requires c.cmp.result c.cmp.ensures c.in_default.not-Equal

pub returns-in_default-cmp : goal.returns-in_default-cmp
returns-in_default-cmp c =
    row_order-by-month c.args.a.now c.args.b.now c.requires c.cmp-2.result (sym c.cmp.ensures ∙ c.in-Equal.is) c.cmp-2.ensures c.in_default-cmp.not-Equal

pub returns : goal.returns
returns c =
    c.then.ensures ∙ (λ i. ordering_then (c.cmp-3.ensures i) (c.cmp-4.ensures i))
    ∙ sym (row_order-by-class c.args.a.now c.args.b.now c.requires c.cmp-2.result (sym c.cmp.ensures ∙ c.in-Equal.is) c.cmp-2.ensures c.in-Equal-cmp.is)

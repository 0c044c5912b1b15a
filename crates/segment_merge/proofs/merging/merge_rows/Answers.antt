use Rattle.std.proofs.Common.{◌++◌, append-nil, sym, ap, subst, ◌∙◌}
use Rattle.segment_blocks.specs.PackedRows.{AreInOrder}
use Rattle.segment_merge.proofs.MergedLemmas.{in_order-merged, both-ended}
use Rattle.segment_merge.proofs.merging.merge_rows.Goals as goal

pub push_next-requires : goal.push_next-requires
push_next-requires g c = record {
  order = sym c.order_of.ensures ∙ c.in-Some.is;
  in_order = subst AreInOrder (sym c.loop-order.invariant)
      (in_order-merged c.args.left c.args.right c.requires.left_in_order c.requires.right_in_order);
}

pub loop-order-preserved : goal.loop-order-preserved
loop-order-preserved g c = c.push_both.ensures.whole ∙ c.in_ok-push_next.ensures.whole ∙ c.loop-order.invariant

pub push_both-requires : goal.push_both-requires
push_both-requires g c = record {
  in_order = subst AreInOrder (sym (c.in_ok-push_next.ensures.whole ∙ c.loop-order.invariant))
      (in_order-merged c.args.left c.args.right c.requires.left_in_order c.requires.right_in_order);
}

pub returns : goal.returns
returns g c =
    let rows = c.loop-order.packed.rows in
    let ended = both-ended c.loop-order.left c.loop-order.right (sym c.order_of.ensures ∙ c.in_default.is) in
    sym (append-nil rows) ∙ ap (λ l. rows ++ l) (sym ended) ∙ c.loop-order.invariant

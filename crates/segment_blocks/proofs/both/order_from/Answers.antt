use Rattle.std.proofs.Common.{sym, ap, ◌∙◌}
use Rattle.std.specs.Ordering.{is_eq}
use Rattle.segment_blocks.specs.Prefix.{common_len}
use Rattle.segment_blocks.proofs.KeyLemmas.{key_order}
use Rattle.segment_blocks.proofs.KeyOrderLemmas.{keys-same}
use Rattle.segment_blocks.proofs.LaneLemmas.{next-key, order-by-keys}
use Rattle.segment_blocks.proofs.both.order_from.Goals as goal

pub order_at_same_key-order-requires-clause-same : goal.order_at_same_key-order-requires-clause-same
order_at_same_key-order-requires-clause-same c =
    sym c.key-a.ensures.key ∙ keys-same c.key-a.result.now c.key-b.result.now (ap is_eq (sym c.order_behind.ensures ∙ c.in-Equal.is)) ∙ c.key-b.ensures.key

pub returns-in_default : goal.returns-in_default
returns-in_default c =
    let left = c.args.left.now in
    let right = c.args.right.now in
    let q = c.requires in
    record {
      order = λ a b left_is right_is.
          order-by-keys left.before right.before a b (next-key left q.left_filled q.left_own a left_is) (next-key right q.right_filled q.right_own b right_is)
          c.order_behind.result c.in_default.not-Equal
          ((λ i. key_order (sym c.key-a.ensures.key i) (sym c.key-b.ensures.key i)) ∙ sym c.order_behind.ensures);
      shared = c.shared_len-shared.ensures.is ∙ (λ i. common_len (c.key-a.ensures.key i) (c.key-b.ensures.key i));
    }

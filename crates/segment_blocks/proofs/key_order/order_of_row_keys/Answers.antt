use Rattle.std.proofs.Common.{sym, ap, ◌∙◌}
use Rattle.std.specs.Ordering.{is_eq}
use Rattle.segment_blocks.proofs.KeyOrderLemmas.{keys-same}
use Rattle.segment_blocks.proofs.key_order.order_of_row_keys.Goals as goal

pub order_at_a_key-requires : goal.order_at_a_key-requires
order_at_a_key-requires c = keys-same c.args.a.now.key c.args.b.now.key (ap is_eq (sym c.order_of_keys.ensures ∙ c.in-Equal.is))

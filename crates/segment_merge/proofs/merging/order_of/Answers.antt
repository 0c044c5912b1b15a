use Rattle.std.proofs.Common.{Some, sym, ap, ◌∙◌}
use Rattle.segment_merge.proofs.MergedLemmas.{order-of-keys}
use Rattle.segment_merge.proofs.merging.order_of.Goals as goal

pub returns-in-Some-Some : goal.returns-in-Some-Some
returns-in-Some-Some c =
    let both = c.in-Some-Some in
    ap Some c.order_of_row_keys.ensures
    ∙ sym (order-of-keys c.args.left.now c.args.right.now both.first both.second (sym c.row_key.ensures ∙ both.is-0) (sym c.row_key-2.ensures ∙ both.is-1))

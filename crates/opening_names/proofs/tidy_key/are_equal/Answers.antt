use Rattle.std.proofs.Common.{◌∙◌, arith, bytes_eq, get_or, sym, take}
use Rattle.opening_names.proofs.KeyLemmas.{equal-more, equals, others}
use Rattle.opening_names.proofs.tidy_key.are_equal.Goals as goal
use Rattle.opening_names.proofs.tidy_key.are_equal.Goals.{then-one-at, else-one-at}

pub loop-at-preserved : goal.loop-at-preserved
loop-at-preserved c =
    let one = c.args.one.now in
    let other = c.args.other.now in
    let at = c.loop-at.at in
    let before = bytes_eq (take at one) (take at other) in
    let more = equal-more one other at (omega arith) (omega arith) in
    elim c.if-one-at.branch [
      | then-one-at w ↦ w.are_equal-is ∙ (others before (get_or one at 0) (get_or other at 0) w.if-one-at.true ∙ sym more)
      | else-one-at w ↦ w.are_equal-is ∙ (c.loop-at.invariant ∙ (equals before (get_or one at 0) (get_or other at 0) w.if-one-at.false ∙ sym more))
    ]

use Rattle.std.proofs.Common.{sym, ap, ◌∙◌}
use Rattle.std.specs.Ordering.{is_gt}
use Rattle.segment_merge.proofs.RisingLemmas.{not_less-self, greater-not_less}
use Rattle.segment_merge.proofs.ranges.later_key.Goals as goal

pub returns-then-is_gt : goal.returns-then-is_gt
returns-then-is_gt c = greater-not_less c.args.before c.args.key (ap is_gt (sym c.cmp.ensures) ∙ sym c.is_gt.ensures ∙ c.if-is_gt.true)

pub returns-else-is_gt : goal.returns-else-is_gt
returns-else-is_gt c = not_less-self c.args.before

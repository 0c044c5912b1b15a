use Rattle.std.proofs.Common.{ap, ◌∙◌, arith}
use Rattle.std.specs.declared.cmp.Ordering.TheVariants.{Less, Greater}
use Rattle.std.specs.Ordering.{ordering_reverse}
use Rattle.std.specs.Cmp.Lexicographic.{nat_list_cmp_total}
use Rattle.segment_blocks.proofs.LaneLemmas.{met-less, met-stays, met-same, next-key, order-by-keys}
use Rattle.segment_blocks.proofs.PrefixLemmas.{common-turned}
use Rattle.segment_blocks.proofs.both.order_of_places.Goals as goal

pub returns-then-lanes-clause-order : goal.returns-then-lanes-clause-order
returns-then-lanes-clause-order c a b left_is right_is =
    let left = c.args.left.now in
    let right = c.args.right.now in
    let lanes = c.args.lanes.now in
    let last = c.requires.lanes.0 in
    let are = c.requires.lanes.1 in
    order-by-keys left.before right.before a b (next-key left c.requires.left_filled are.first.own a left_is)
    (next-key right c.requires.right_filled are.second.own b right_is)
    Less (λ d. cc) (met-less last left.before right.before lanes.left.shared lanes.right.shared are.first.met are.second.met c.if-lanes.true)

pub returns-then-lanes-clause-shared : goal.returns-then-lanes-clause-shared
returns-then-lanes-clause-shared c =
    let lanes = c.args.lanes.now in
    let are = c.requires.lanes.1 in
    met-stays c.requires.lanes.0 c.args.left.now.before c.args.right.now.before lanes.left.shared lanes.right.shared are.first.met are.second.met c.if-lanes.true

pub returns-then-lanes-2-clause-order : goal.returns-then-lanes-2-clause-order
returns-then-lanes-2-clause-order c a b left_is right_is =
    let left = c.args.left.now in
    let right = c.args.right.now in
    let lanes = c.args.lanes.now in
    let last = c.requires.lanes.0 in
    let are = c.requires.lanes.1 in
    order-by-keys left.before right.before a b (next-key left c.requires.left_filled are.first.own a left_is)
    (next-key right c.requires.right_filled are.second.own b right_is)
    Greater (λ d. cc)
    (nat_list_cmp_total.antisymm left.before right.before
    ∙ ap ordering_reverse (met-less last right.before left.before lanes.right.shared lanes.left.shared are.second.met are.first.met c.if-lanes-2.true))

pub returns-then-lanes-2-clause-shared : goal.returns-then-lanes-2-clause-shared
returns-then-lanes-2-clause-shared c =
    let left = c.args.left.now in
    let right = c.args.right.now in
    let lanes = c.args.lanes.now in
    let are = c.requires.lanes.1 in
    met-stays c.requires.lanes.0 right.before left.before lanes.right.shared lanes.left.shared are.second.met are.first.met c.if-lanes-2.true
    ∙ common-turned right.before left.before

pub order_from-requires-clause-same : goal.order_from-requires-clause-same
order_from-requires-clause-same c =
    let lanes = c.args.lanes.now in
    let are = c.requires.lanes.1 in
    met-same c.requires.lanes.0 c.args.left.now.before c.args.right.now.before lanes.left.shared lanes.right.shared are.first.met are.second.met
    (omega (arith, c.if-lanes.false, c.if-lanes-2.false))

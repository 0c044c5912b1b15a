use Rattle.std.proofs.Common.{◌≡◌, refl, sym, ap, subst, ◌∙◌, arith}
use Rattle.std.specs.declared.cmp.Ordering.TheVariants.{Less}
use Rattle.std.specs.Ordering.{ordering_reverse}
use Rattle.tally_rows.specs.RowKey.{row_order, row_order-total}
use Rattle.tally_rows.specs.Row.{row_key_of}
use Rattle.segment_blocks.specs.Moving.{next_row_key, HasMovedBehind}
use Rattle.segment_blocks.specs.Place.{rows_left}
use Rattle.segment_blocks.specs.Prefix.{common_len}
use Rattle.segment_blocks.proofs.LaneLemmas.{own_first, on-if, if-on-so, met-after, lesser-is, greater-is, HasMovedFirst-left, HasMovedFirst-right}
use Rattle.segment_blocks.proofs.PrefixLemmas.{common-turned}
use Rattle.segment_blocks.proofs.both.move_first.Goals as goal

pub returns-else-not-on-clause-lanes : goal.returns-else-not-on-clause-lanes
returns-else-not-on-clause-lanes c =
    let left = c.args.left.now in
    let right = c.args.right.now in
    let lanes = c.args.lanes.now in
    let are = c.requires.lanes in
    let first = own_first left c.requires.left_filled are.first.own in
    let second = own_first right c.requires.right_filled are.second.own in
    let a = row_key_of first.row in
    let b = row_key_of second.row in
    let order = c.order_of_places-order.ensures.order a b (ap next_row_key first.is) (ap next_row_key second.is) in
    let lesser : row_order a b ≡ Less = sym order ∙ c.in-Less.is in
    on-if _ c.follow.result
    (λ on. record {
      first = c.follow.ensures.lane on;
      second = record {
        own = are.second.own;
        met = met-after left.before right.before a b first.own second.own c.push_own.new.last c.order_of_places-order.result.1 (if-on-so _ c.in_ok-on-in-Less.on c.if-not-on.false c.in_ok-on-in-Less.ensures.key)
            c.order_of_places-order.ensures.shared lesser;
      };
    })

pub returns-else-not-on-clause-moved : goal.returns-else-not-on-clause-moved
returns-else-not-on-clause-moved c first left_until right_until block room left_least right_least =
    let left = c.args.left.now in
    let right = c.args.right.now in
    let lanes = c.args.lanes.now in
    let are = c.requires.lanes in
    let last = c.args.last.now in
    let rows = c.args.rows.now in
    let new = c.push_own.new.rows in
    let new_last = c.push_own.new.last in
    let h : HasMovedBehind lanes.left.by (rows_left left) (rows_left c.follow.new.self) last new_last rows new =
    subst (λ r. HasMovedBehind lanes.left.by (rows_left left) r last new_last rows new) (sym c.follow.ensures.rows) (if-on-so _ c.in_ok-on-in-Less.on c.if-not-on.false c.in_ok-on-in-Less.ensures.moved) in
    let second = own_first right c.requires.right_filled are.second.own in
    let other = second.row in
    let order = c.order_of_places-order.ensures.order (row_key_of h.row) (row_key_of other) (ap next_row_key h.first) (ap next_row_key second.is) in
    HasMovedFirst-left first left_until right_until lanes last rows block left_least right_least room new_last new (rows_left left) (rows_left c.follow.new.self)
    (rows_left right) (rows_left right) other second.rest h second.is refl
    (lesser-is c.order_of_places-order.result.0 _ c.in-Less.is order) (are.first.met.is ∙ ap (common_len last) (sym (if-on-so _ c.in_ok-on-in-Less.on c.if-not-on.false c.in_ok-on-in-Less.ensures.key)))
    (omega (arith, c.if-lanes.false))

pub returns-else-not-on-2-clause-lanes : goal.returns-else-not-on-2-clause-lanes
returns-else-not-on-2-clause-lanes c =
    let left = c.args.left.now in
    let right = c.args.right.now in
    let lanes = c.args.lanes.now in
    let are = c.requires.lanes in
    let first = own_first left c.requires.left_filled are.first.own in
    let second = own_first right c.requires.right_filled are.second.own in
    let a = row_key_of first.row in
    let b = row_key_of second.row in
    let order = c.order_of_places-order.ensures.order a b (ap next_row_key first.is) (ap next_row_key second.is) in
    let lesser : row_order b a ≡ Less = row_order-total.antisymm b a ∙ ap ordering_reverse (sym order ∙ c.in-Greater.is) in
    on-if _ c.follow-in-Greater.result
    (λ on. record {
      first = record {
        own = are.first.own;
        met = met-after right.before left.before b a second.own first.own c.push_own-in-Greater.new.last c.order_of_places-order.result.1 (if-on-so _ c.in_ok-on-in-Greater.on c.if-not-on-2.false c.in_ok-on-in-Greater.ensures.key)
            (c.order_of_places-order.ensures.shared ∙ common-turned left.before right.before) lesser;
      };
      second = c.follow-in-Greater.ensures.lane on;
    })

pub returns-else-not-on-2-clause-moved : goal.returns-else-not-on-2-clause-moved
returns-else-not-on-2-clause-moved c first left_until right_until block room left_least right_least =
    let left = c.args.left.now in
    let right = c.args.right.now in
    let lanes = c.args.lanes.now in
    let are = c.requires.lanes in
    let last = c.args.last.now in
    let rows = c.args.rows.now in
    let new = c.push_own-in-Greater.new.rows in
    let new_last = c.push_own-in-Greater.new.last in
    let h : HasMovedBehind lanes.right.by (rows_left right) (rows_left c.follow-in-Greater.new.self) last new_last rows new =
    subst (λ r. HasMovedBehind lanes.right.by (rows_left right) r last new_last rows new) (sym c.follow-in-Greater.ensures.rows) (if-on-so _ c.in_ok-on-in-Greater.on c.if-not-on-2.false c.in_ok-on-in-Greater.ensures.moved) in
    let first_row = own_first left c.requires.left_filled are.first.own in
    let other = first_row.row in
    let order = c.order_of_places-order.ensures.order (row_key_of other) (row_key_of h.row) (ap next_row_key first_row.is) (ap next_row_key h.first) in
    HasMovedFirst-right first left_until right_until lanes last rows block left_least right_least room new_last new (rows_left left) (rows_left left)
    (rows_left right) (rows_left c.follow-in-Greater.new.self) other first_row.rest h first_row.is refl
    (greater-is (row_key_of other) (row_key_of h.row) c.order_of_places-order.result.0 c.in-Greater.is order) (are.second.met.is ∙ ap (common_len last) (sym (if-on-so _ c.in_ok-on-in-Greater.on c.if-not-on-2.false c.in_ok-on-in-Greater.ensures.key)))
    (omega (arith, c.if-lanes-2.false))

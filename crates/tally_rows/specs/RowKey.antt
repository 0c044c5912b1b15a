-- Statement: the order of the five parts of a row: key, move, month, speed, group.
use Rattle.std.specs.Prelude.{Bool}
use Rattle.std.specs.declared.cmp.Ordering.{Ordering}
use Rattle.std.specs.Ordering.{on, nat_cmp, then_cmp, eq_by_cmp}
use Rattle.std.specs.Option.{option_cmp}
use Rattle.std.specs.Cmp.{IsTotalOrder, then_total, on_total, nat_cmp_total}
use Rattle.std.specs.Cmp.Lexicographic.{options_total, nat_list_cmp_total}
use Rattle.std.specs.Cmp.Lexicographic.{slice_cmp}
use Rattle.explorer_model.specs.declared.archive.Month.{Month}
use Rattle.explorer_model.specs.declared.chess.Move.{Move}
use Rattle.explorer_model.specs.Order.{speed_index, role_index}
use Rattle.tally_rows.specs.declared.row_key.RowKey.{RowKey}

abbrev pub month_order : Month → Month → Ordering
month_order = then_cmp (on (λ m. m.year) nat_cmp) (on (λ m. m.month) nat_cmp)

-- by the two squares, then by the promotion, none first
abbrev pub move_order : Move → Move → Ordering
move_order =
    then_cmp (on (λ m. m.from.index) nat_cmp)
    (then_cmp (on (λ m. m.to.index) nat_cmp)
    (on (λ m. m.promotion) (option_cmp (on role_index nat_cmp))))

unfoldable pub row_order : RowKey → RowKey → Ordering
row_order =
    then_cmp (on (λ p. p.key) (slice_cmp nat_cmp))
    (then_cmp (on (λ p. p.next) (option_cmp move_order))
    (then_cmp (on (λ p. p.month) month_order)
    (then_cmp (on (λ p. p.speed) (on speed_index nat_cmp))
    (on (λ p. p.group.value) nat_cmp))))

pub row_order-total : IsTotalOrder row_order
unfolding row_order
row_order-total =
    then_total (on_total (λ p. p.key) nat_list_cmp_total)
    (then_total (on_total (λ p. p.next) (options_total
    (then_total (on_total (λ m. m.from.index) nat_cmp_total)
    (then_total (on_total (λ m. m.to.index) nat_cmp_total)
    (on_total (λ m. m.promotion) (options_total (on_total role_index nat_cmp_total)))))))
    (then_total (on_total (λ p. p.month)
    (then_total (on_total (λ m. m.year) nat_cmp_total) (on_total (λ m. m.month) nat_cmp_total)))
    (then_total (on_total (λ p. p.speed) (on_total speed_index nat_cmp_total))
    (on_total (λ p. p.group.value) nat_cmp_total))))

-- whether all five are the same
unfoldable pub same_row_key : RowKey → RowKey → Bool
same_row_key = eq_by_cmp row_order

-- Entries have the same numbers exactly where they stand for the same parts.
use Rattle.std.proofs.Common.{◌≡◌, ℕ, ◌==◌, sym, ap, ◌∙◌, arith}
use Rattle.std.specs.declared.cmp.Ordering.TheVariants.{Equal}
use Rattle.std.specs.Ordering.{nat_cmp, ordering_then, is_eq}
use Rattle.std.specs.Cmp.{nat_cmp_total, tied_itself, both_tied}
use Rattle.std.proofs.lemmas.Bool.Decides.{nat_tests}
use Rattle.tally_rows.specs.declared.row_key.RowKey.{RowKey}
use Rattle.tally_rows.specs.declared.sort_entry.SortEntry.{SortEntry}
use Rattle.tally_rows.specs.RowKey.{row_order, same_row_key}
use Rattle.tally_rows.specs.SortEntry.{same_numbers, Tells}
use Rattle.tally_rows.proofs.EntryOrder.{entry_cmp, then_equal}

one : (m n : ℕ) → (m == n) ≡ is_eq (nat_cmp m n)
one m n = grind (arith, nat_tests)

pub same_numbers-is : (x y : SortEntry) (a b : RowKey) → Tells x a → Tells y b → same_numbers x y ≡ same_row_key a b
unfolding same_row_key
same_numbers-is x y a b p q =
    let z : SortEntry = record y { at = x.at } in
    let r : Tells z b = record {
      long = q.long;
      bytes = q.bytes;
      year = q.year;
      month = q.month;
      first = q.first;
      second = q.second;
      third = q.third;
      fourth = q.fourth;
      rest = q.rest;
      group = q.group;
    } in
    let at : nat_cmp x.at x.at ≡ Equal = tied_itself nat_cmp_total x.at in
    let group : (x.group == y.group) ≡ is_eq (ordering_then (nat_cmp x.group y.group) (nat_cmp x.at x.at)) =
    one x.group y.group ∙ ap is_eq (sym (ap (ordering_then (nat_cmp x.group y.group)) at ∙ then_equal (nat_cmp x.group y.group))) in
    both_tied _ _ _ _ (one x.first y.first)
    (both_tied _ _ _ _ (one x.second y.second)
    (both_tied _ _ _ _ (one x.third y.third)
    (both_tied _ _ _ _ (one x.fourth y.fourth)
    (both_tied _ _ _ _ (one x.rest y.rest) group))))
    ∙ ap is_eq (entry_cmp x z a b p r ∙ ap (ordering_then (row_order a b)) at ∙ then_equal (row_order a b))

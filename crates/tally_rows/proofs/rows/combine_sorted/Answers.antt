use Rattle.std.proofs.Common.{◌≡◌, ℕ, ◌-◌, ◌<◌, ◌==◌, false, length, map, ap, sym, subst, ◌∙◌, arith}
use Rattle.std.proofs.lemmas.Bool.{eqb-true}
use Rattle.std.proofs.lemmas.Bool.Decides.{nat_tests}
use Rattle.std.proofs.lemmas.List.{nil_from_length}
use Rattle.tally_rows.specs.declared.row.Row.{Row}
use Rattle.tally_rows.specs.Row.{row_key_of, row_of, combined, combined_rows, HasRoomForOne}
use Rattle.tally_rows.specs.SortEntry.{any_single, picked}
use Rattle.tally_rows.proofs.Passing.{same-parts, room, pass-same, pass-other, pass-first, pass-all, end-is, end-set}
use Rattle.tally_rows.proofs.rows.combine_sorted.Goals as goal
use Rattle.tally_rows.proofs.rows.combine_sorted.Goals.{then-has_numbers_of+in_ok-add, else-has_numbers_of+in_ok-push-2}

some-left : (n : ℕ) → (n == 0) ≡ false → 0 < n
some-left n e = grind (arith, nat_tests)

pub returns-then-is_empty : goal.returns-then-is_empty
unfolding combined_rows
returns-then-is_empty c =
    let none = nil_from_length c.args.entries.now (eqb-true (length c.args.entries.now) 0 (sym c.is_empty.ensures ∙ c.if-is_empty.true)) in
    c.in_ok-rows.ensures.items ∙ sym (ap (λ l. combined_rows (map row_of (picked c.args.singles.now l any_single))) none)

pub loop-place-init : goal.loop-place-init
loop-place-init c = record {
  front = c.in_ok-rows.rows.items;
  last = c.of.result;
  made = c.in_ok-push.ensures.items;
  passing = pass-first c.args.singles.now c.args.entries.now c.requires.told _ _ c.in_ok-rows.rows.items c.of.result
      (some-left (length c.args.entries.now) (sym c.is_empty.ensures ∙ c.if-is_empty.false))
      c.index-singles-entries.is c.in_ok-rows.ensures.items c.of.ensures.row c.of.ensures.small;
}

pub add-requires-clause-same : goal.add-requires-clause-same
add-requires-clause-same c =
    let filling = c.loop-place.invariant in
    let end : c.len-end.result - 1 ≡ length c.loop-place.rows.items - 1 = omega (arith, c.len-end.ensures, c.loop-place.rows.ok.0) in
    let last = c.index_mut.ensures.value ∙ end-is c.args.singles.now c.args.entries.now c.loop-place.rows.items c.loop-place.place _ filling end c.index_mut.result.now in
    ap row_key_of last
    ∙ same-parts c.args.singles.now c.args.entries.now c.requires.told c.loop-place.place _ c.index-singles-entry.result
    c.loop-place-test.true c.index-singles-entry.is filling.front filling.last c.loop-place.auto.place filling.passing
    (sym c.has_numbers_of.ensures ∙ c.if-has_numbers_of.true)

pub add-requires-clause-room : goal.add-requires-clause-room
add-requires-clause-room c =
    let filling = c.loop-place.invariant in
    let end : c.len-end.result - 1 ≡ length c.loop-place.rows.items - 1 = omega (arith, c.len-end.ensures, c.loop-place.rows.ok.0) in
    let last = c.index_mut.ensures.value ∙ end-is c.args.singles.now c.args.entries.now c.loop-place.rows.items c.loop-place.place _ filling end c.index_mut.result.now in
    subst HasRoomForOne (sym last) (room c.args.singles.now c.args.entries.now c.requires.told c.loop-place.place _ c.index-singles-entry.result
    c.loop-place-test.true c.index-singles-entry.is filling.front filling.last c.loop-place.auto.place filling.passing c.requires.few)

pub loop-place-preserved : goal.loop-place-preserved
loop-place-preserved c =
    let filling = c.loop-place.invariant in
    elim c.if-has_numbers_of.branch [
      | then-has_numbers_of+in_ok-add w ↦
          let end : w.len-end.result - 1 ≡ length c.loop-place.rows.items - 1 = omega (arith, w.len-end.ensures, c.loop-place.rows.ok.0) in
          let last = w.index_mut.ensures.value ∙ end-is c.args.singles.now c.args.entries.now c.loop-place.rows.items c.loop-place.place _ filling end w.index_mut.result.now in
          let ratings = ap (λ (r : Row). r.ratings) last in
          rw w.rows-is (record {
            front = filling.front;
            last = w.add.new.self;
            made = end-set c.args.singles.now c.args.entries.now c.loop-place.rows.items c.loop-place.place _ filling end w.add.new.self;
            passing = pass-same c.args.singles.now c.args.entries.now c.requires.told c.loop-place.place _ c.index-singles-entry.result
                c.loop-place-test.true c.index-singles-entry.is filling.front filling.last c.loop-place.auto.place filling.passing
                w.add.new.self (w.in_ok-add.ensures.row ∙ ap (λ (r : Row). combined r (row_of c.index-singles-entry.result)) last) (omega (arith, ratings, w.in_ok-add.ensures.small))
                (sym c.has_numbers_of.ensures ∙ w.if-has_numbers_of.true);
          })
      | else-has_numbers_of+in_ok-push-2 w ↦
          rw w.rows-is (record {
            front = c.loop-place.rows.items;
            last = w.of-else-has_numbers_of.result;
            made = w.in_ok-push-2.ensures.items;
            passing = pass-other c.args.singles.now c.args.entries.now c.requires.told c.loop-place.place _ c.index-singles-entry.result
                c.loop-place-test.true c.index-singles-entry.is filling.front filling.last c.loop-place.auto.place filling.passing
                c.loop-place.rows.items w.of-else-has_numbers_of.result filling.made w.of-else-has_numbers_of.ensures.row
                (omega (arith, w.of-else-has_numbers_of.ensures.small))
                (sym c.has_numbers_of.ensures ∙ w.if-has_numbers_of.false);
          })
    ]

pub returns : goal.returns
returns c =
    let filling = c.loop-place.invariant in
    pass-all c.args.singles.now c.args.entries.now c.requires.told filling.front c.loop-place.rows.items filling.last c.loop-place.place
    c.loop-place-test.false filling.made filling.passing

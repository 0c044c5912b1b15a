use Rattle.std.proofs.Common.{◌≡◌, ℕ, Bool, List, length, map, subst, sym, ap, ◌∙◌, arith}
use Rattle.std.specs.List.{All}
use Rattle.std.specs.List.Sorted.{IsPermutation}
use Rattle.std.proofs.lemmas.Result.{IfOk-weaker}
use Rattle.tally_rows.specs.declared.single.Single.{Single}
use Rattle.tally_rows.specs.declared.sort_entry.SortEntry.{SortEntry}
use Rattle.tally_rows.specs.Row.{row_of, combined_rows}
use Rattle.tally_rows.specs.Single.{AreSingles}
use Rattle.tally_rows.specs.SortEntry.{any_single, picked, IsEntryIn}
use Rattle.tally_rows.specs.Tallied.{Tallied}
use Rattle.tally_rows.specs.Track.{Track}
use Rattle.tally_rows.specs.Within.{AreSinglesWithin, TalliedWithin}
use Rattle.tally_rows.proofs.FromSingles.{Tallied-picked, TalliedWithin-picked, stand_moved, length-moved}
use Rattle.tally_rows.proofs.rows.rows_of.Goals as goal

pub combine_sorted-requires : goal.combine_sorted-requires
combine_sorted-requires c =
    let singles : List Single = c.as_slice.result.now in
    let entries : List SortEntry = c.in_ok-entries.entries.items in
    let moved : List SortEntry = c.sort_unstable.new.self.items in
    let places : IsPermutation entries moved = c.sort_unstable.ensures.permutation in
    let told : All (IsEntryIn singles any_single) moved = stand_moved singles entries moved c.in_ok-entries.ensures.all c.in_ok-entries.ensures.told places in
    let same : singles ≡ c.as_slice-2.result.now = c.as_slice.ensures.value ∙ sym c.as_slice-2.ensures.value in
    let many : length moved ≡ length singles = length-moved singles entries moved c.in_ok-entries.ensures.all c.in_ok-entries.ensures.told places in
    record {
      told = subst (λ (l : List SortEntry). All (IsEntryIn c.as_slice-2.result.now any_single) l) (sym c.as_slice-3.ensures.value)
          (subst (λ (l : List Single). All (IsEntryIn l any_single) moved) same told);
      few = omega (arith, many, ap length c.as_slice.ensures.value, ap length c.as_slice-3.ensures.value, c.requires);
    }

pub returns-clause-all : goal.returns-clause-all
returns-clause-all c =
    let singles : List Single = c.as_slice.result.now in
    let entries : List SortEntry = c.in_ok-entries.entries.items in
    let moved : List SortEntry = c.sort_unstable.new.self.items in
    let same : c.as_slice-2.result.now ≡ singles = c.as_slice-2.ensures.value ∙ sym c.as_slice.ensures.value in
    IfOk-weaker c.combine_sorted.result (λ rows. rows.items ≡ combined_rows (map row_of (picked c.as_slice-2.result.now c.as_slice-3.result.now any_single)))
    (λ rows. (tracks : List Track) → AreSingles tracks c.args.singles.items → Tallied tracks rows.items)
    (λ rows e tracks given.
    subst (Tallied tracks) (sym (e ∙ (λ i. combined_rows (map row_of (picked (same i) (c.as_slice-3.ensures.value i) any_single)))))
    (Tallied-picked singles entries moved c.in_ok-entries.ensures.all c.in_ok-entries.ensures.told c.sort_unstable.ensures.permutation
    c.sort_unstable.ensures.sorted tracks (subst (λ (l : List Single). AreSingles tracks l) (sym c.as_slice.ensures.value) given)))
    c.combine_sorted.ensures

pub returns-clause-within : goal.returns-clause-within
returns-clause-within c =
    let singles : List Single = c.as_slice.result.now in
    let entries : List SortEntry = c.in_ok-entries.entries.items in
    let moved : List SortEntry = c.sort_unstable.new.self.items in
    let same : c.as_slice-2.result.now ≡ singles = c.as_slice-2.ensures.value ∙ sym c.as_slice.ensures.value in
    IfOk-weaker c.combine_sorted.result (λ rows. rows.items ≡ combined_rows (map row_of (picked c.as_slice-2.result.now c.as_slice-3.result.now any_single)))
    (λ rows. (test : List ℕ → Bool) (tracks : List Track) → AreSinglesWithin test tracks c.args.singles.items → TalliedWithin test tracks rows.items)
    (λ rows e test tracks given.
    subst (TalliedWithin test tracks) (sym (e ∙ (λ i. combined_rows (map row_of (picked (same i) (c.as_slice-3.ensures.value i) any_single)))))
    (TalliedWithin-picked singles entries moved c.in_ok-entries.ensures.all c.in_ok-entries.ensures.told c.sort_unstable.ensures.permutation
    c.sort_unstable.ensures.sorted test tracks (subst (λ (l : List Single). AreSinglesWithin test tracks l) (sym c.as_slice.ensures.value) given)))
    c.combine_sorted.ensures

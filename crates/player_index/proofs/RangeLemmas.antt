-- Where the entries of a seat begin and end.
use Rattle.std.proofs.Common.{◌≡◌, ℕ, zero, suc, ◌+◌, ◌-◌, ◌<◌, ◌≤◌, true, false, List, [], ◌∷◌, length, take, drop, get_or, map, filter, if◌then◌else◌, refl, sym, ap, subst, ◌∙◌, arith, true≢false, inl, inr, ◌⊎◌}
use Rattle.std.specs.Prelude.{slice_range}
use Rattle.std.specs.declared.cmp.Ordering.{Ordering}
use Rattle.std.specs.declared.cmp.Ordering.TheVariants.{Less, Equal, Greater}
use Rattle.std.specs.List.{All, AllByRecursion}
use Rattle.std.specs.Cmp.{alike_right}
use Rattle.std.specs.FinMap.{nat_cmp-IsAntisymmetric}
use Rattle.std.specs.Ordering.{nat_cmp, ordering_then, is_lt, is_eq}
use Rattle.std.proofs.lemmas.Bool.{cases_lt}
use Rattle.std.proofs.lemmas.Bool.Decides.{nat_tests}
use Rattle.std.proofs.lemmas.List.{get_or-drop, length-drop}
use Rattle.std.proofs.lemmas.List.Elements.{All-from_recursion}
use Rattle.best_lists.proofs.Ranked.{Behind, InOrder, InOrder-ranked, ranked-InOrder}
use Rattle.explorer_model.specs.declared.archive.Classes.{Classes}
use Rattle.explorer_model.specs.declared.chess.Color.{Color}
use Rattle.explorer_model.specs.declared.chess.Color.TheVariants.{White}
use Rattle.explorer_model.specs.Players.{plays_as}
use Rattle.player_index.specs.declared.entry.Entry.{Entry}
use Rattle.player_index.specs.Entries.{before, color_index, entries_from, entries_in, entry, is_at, is_below, numbers_where, seat_by, seat_of, seat_order}
use Rattle.player_index.specs.Index.{IsRange}
use Rattle.player_index.proofs.Covering.{entries-below}
use Rattle.player_index.proofs.Numbers.{kept-behind, kept-front, numbers-kept}
use Rattle.player_index.proofs.Orders.{both-equal, color-one, entry-order, seat-total}
use Rattle.player_index.proofs.Ranking.{All-ranked, filter-ranked}

-- ---- how an entry stands to a seat, by its seat and its number

not-below-zero : (n : ℕ) → is_lt (nat_cmp n 0) ≡ false
not-below-zero n = grind (arith, nat_tests)

is-below : (m n : ℕ) → m < n → is_lt (nat_cmp m n) ≡ true
is-below m n h = grind (arith, nat_tests)

not-below : (m n : ℕ) → n ≤ m → is_lt (nat_cmp m n) ≡ false
not-below m n h = grind (arith, nat_tests)

equal-is : (o : Ordering) → is_eq o ≡ true → o ≡ Equal
equal-is Less h = absurd (true≢false (sym h))
equal-is Equal h = refl
equal-is Greater h = absurd (true≢false (sym h))

apart-first : (o p : Ordering) → is_lt (ordering_then o p) ≡ true → is_lt p ≡ false → is_eq o ≡ false
apart-first Less p h k = refl
apart-first Equal p h k = absurd (true≢false (sym h ∙ k))
apart-first Greater p h k = refl

apart-last : (o p : Ordering) → is_lt (ordering_then o p) ≡ false → is_lt p ≡ true → is_eq o ≡ false
apart-last Less p h k = refl
apart-last Equal p h k = absurd (true≢false (sym k ∙ h))
apart-last Greater p h k = refl

among : (o p q : Ordering) → is_lt (ordering_then o p) ≡ false → is_lt (ordering_then o q) ≡ true → is_eq o ≡ true
among Less p q h k = absurd (true≢false h)
among Equal p q h k = refl
among Greater p q h k = absurd (true≢false (sym k))

never-both : (o p q : Ordering) → is_lt (ordering_then o p) ≡ true → is_lt p ≡ false → is_lt (ordering_then o q) ≡ false → is_lt q ≡ true → ⊥
never-both Less p q h k m n = true≢false m
never-both Equal p q h k m n = true≢false (sym h ∙ k)
never-both Greater p q h k m n = true≢false (sym h)

-- ---- the entries of a seat, by their numbers

module _ (classes : List Classes) (seat : List ℕ × ℕ) where
  same-seat : (x y : Entry) → is_at classes seat x ≡ true → is_at classes seat y ≡ true → x.number ≤ y.number → before classes y x ≡ false
  same-seat x y h k le =
      let first = equal-is (seat_order (seat_of classes x) seat) h in
      let second = equal-is (seat_order (seat_of classes y) seat) k in
      let tie : seat_order (seat_of classes y) (seat_of classes x) ≡ Equal =
      alike_right seat-total (seat_of classes x) seat (seat_of classes y) first ∙ second in
      ap (λ o. is_lt (ordering_then o (nat_cmp y.number x.number))) tie ∙ not-below y.number x.number le

  kept-later : (x : Entry) (ys : List Entry) → is_at classes seat x ≡ true → AllByRecursion (λ y. x.number ≤ y.number) ys
      → Behind (before classes) x (filter (is_at classes seat) ys)
  kept-later x [] h each = tt
  kept-later x (y ∷ ys) h each =
      elim (is_at classes seat y) as (λ b. is_at classes seat y ≡ b
      → Behind (before classes) x (if b then y ∷ filter (is_at classes seat) ys else filter (is_at classes seat) ys)) [
        | true ↦ λ e. (same-seat x y h e each.0, kept-later x ys h each.1)
        | false ↦ λ e. kept-later x ys h each.1
      ] refl

  -- entries by their numbers
  abbrev Ascend : List Entry → Type 0
  Ascend [] = Unit {0}
  Ascend (x ∷ xs) = AllByRecursion (λ y. x.number ≤ y.number) xs × Ascend xs

  kept-in_order : (xs : List Entry) → Ascend xs → InOrder (before classes) (filter (is_at classes seat) xs)
  kept-in_order [] up = tt
  kept-in_order (x ∷ xs) up =
      elim (is_at classes seat x) as (λ b. is_at classes seat x ≡ b
      → InOrder (before classes) (if b then x ∷ filter (is_at classes seat) xs else filter (is_at classes seat) xs)) [
        | true ↦ λ e. (kept-later x xs e up.0, kept-in_order xs up.1)
        | false ↦ λ e. kept-in_order xs up.1
      ] refl

entries-above : (least first count : ℕ) → least ≤ first → AllByRecursion (λ e. least ≤ e.number) (entries_from first count)
unfolding entries_from
entries-above least first zero le = tt
entries-above least first (suc count) le = (le, (le, entries-above least (first + 1) count (omega (arith, le))))

entries-ascend : (classes : List Classes) (seat : List ℕ × ℕ) (first count : ℕ) → Ascend classes seat (entries_from first count)
unfolding entries_from
entries-ascend classes seat first zero = tt
entries-ascend classes seat first (suc count) =
    let later = entries-above first (first + 1) count (omega arith) in
    ((omega arith, later), (later, entries-ascend classes seat (first + 1) count))

-- an entry of a seat has its colour
color-at : (classes : List Classes) (player : List ℕ) (color : Color) (e : Entry) → is_at classes (seat_by player color) e ≡ true → e.color ≡ color
color-at classes player color e h =
    let tie = equal-is (seat_order (seat_of classes e) (seat_by player color)) h in
    let colors = both-equal _ (nat_cmp (color_index e.color) (color_index color)) tie in
    color-one e.color color (nat_cmp-IsAntisymmetric (color_index e.color) (color_index color) colors.1)

kept-colors : (classes : List Classes) (player : List ℕ) (color : Color) (xs : List Entry)
    → AllByRecursion (λ e. e.color ≡ color) (filter (is_at classes (seat_by player color)) xs)
kept-colors classes player color [] = tt
kept-colors classes player color (x ∷ xs) =
    let p = is_at classes (seat_by player color) in
    elim (p x) as (λ b. p x ≡ b → AllByRecursion (λ (e : Entry). e.color ≡ color) (if b then x ∷ filter p xs else filter p xs)) [
      | true ↦ λ h. (color-at classes player color x h, kept-colors classes player color xs)
      | false ↦ λ h. kept-colors classes player color xs
    ] refl

-- ---- the range

module _ (classes : List Classes) (entries : List Entry) (in_order : entries ≡ entries_in classes) where
  pub range-in_order : InOrder (before classes) entries
  range-in_order = subst (InOrder (before classes)) (sym in_order) (InOrder-ranked (entry-order classes) (entries_from 0 (length classes)))

  numbers-below : All (λ e. e.number < length classes) entries
  numbers-below =
      let n = length classes in
      let zero-plus : 0 + n ≡ n = omega arith in
      let all : AllByRecursion (λ e. e.number < n) (entries_from 0 n) =
      subst (λ m. AllByRecursion (λ (e : Entry). e.number < m) (entries_from 0 n)) zero-plus (entries-below 0 n) in
      All-from_recursion (λ (e : Entry). e.number < n) entries
      (subst (AllByRecursion (λ (e : Entry). e.number < n)) (sym in_order)
      (All-ranked (λ (e : Entry). e.number < n) (before classes) (before classes) (λ a b h k. refl) (entries_from 0 n) all))

  module _ (player : List ℕ) (color : Color) (from to : ℕ) (from_within : from ≤ length entries) (to_within : to ≤ length entries)
      (below_first : (k : ℕ) (d : Entry) → k < from → is_below classes (seat_by player color, 0) (get_or entries k d) ≡ true)
      (above_first : (k : ℕ) (d : Entry) → from ≤ k → k < length entries → is_below classes (seat_by player color, 0) (get_or entries k d) ≡ false)
      (below_end : (k : ℕ) (d : Entry) → k < to → is_below classes (seat_by player color, length classes) (get_or entries k d) ≡ true)
      (above_end : (k : ℕ) (d : Entry) → to ≤ k → k < length entries → is_below classes (seat_by player color, length classes) (get_or entries k d) ≡ false) where
    standing : ℕ → Entry → Ordering
    standing k d = seat_order (seat_of classes (get_or entries k d)) (seat_by player color)

    range-ordered : from ≤ to
    range-ordered = by (cases_lt to from)
      where
        by : (to < from) ⊎ (from ≤ to) → from ≤ to
        by (inr le) = le
        by (inl less) =
            let d = entry 0 White in
            let e = get_or entries to d in
            let within : to < length entries = omega (arith, less, from_within) in
            absurd (never-both (seat_order (seat_of classes e) (seat_by player color)) (nat_cmp e.number 0) (nat_cmp e.number (length classes))
            (below_first to d less) (not-below-zero e.number) (above_end to d (omega arith) within) (is-below e.number (length classes) (numbers-below to d within)))

    rest-kept : filter (is_at classes (seat_by player color)) (drop from entries) ≡ take (to - from) (drop from entries)
    rest-kept =
        let p = is_at classes (seat_by player color) in
        let left = drop from entries in
        let count : from + (to - from) ≡ to = omega (arith, range-ordered) in
        let o = λ (e : Entry). seat_order (seat_of classes e) (seat_by player color) in
        kept-front p (to - from) left
        (λ k d less within.
        let e = get_or entries (from + k) d in
        let inside : from + k < length entries = omega (arith, within, length-drop from entries, from_within) in
        ap p (get_or-drop from entries k d)
        ∙ among (o e) (nat_cmp e.number 0) (nat_cmp e.number (length classes)) (above_first (from + k) d (omega arith) inside)
        (below_end (from + k) d (omega (arith, less, count))))
        (λ k d less within.
        let e = get_or entries (from + k) d in
        let inside : from + k < length entries = omega (arith, within, length-drop from entries, from_within) in
        ap p (get_or-drop from entries k d)
        ∙ apart-last (o e) (nat_cmp e.number (length classes)) (above_end (from + k) d (omega (arith, less, count)) inside)
        (is-below e.number (length classes) (numbers-below (from + k) d inside)))

    all-kept : filter (is_at classes (seat_by player color)) entries ≡ slice_range entries from to
    all-kept =
        let o = λ (e : Entry). seat_order (seat_of classes e) (seat_by player color) in
        kept-behind (is_at classes (seat_by player color)) from entries
        (λ k d less within.
        let e = get_or entries k d in
        apart-first (o e) (nat_cmp e.number 0) (below_first k d less) (not-below-zero e.number))
        ∙ rest-kept

    range-numbers : map (λ e. e.number) (slice_range entries from to) ≡ numbers_where (plays_as player color) 0 classes
    range-numbers =
        let p = is_at classes (seat_by player color) in
        let all = entries_from 0 (length classes) in
        let kept : filter p entries ≡ filter p all =
        ap (filter p) in_order ∙ filter-ranked (entry-order classes) p all
        ∙ ranked-InOrder (before classes) (filter p all) (kept-in_order classes (seat_by player color) all (entries-ascend classes (seat_by player color) 0 (length classes))) in
        ap (map (λ e. e.number)) (sym all-kept ∙ kept) ∙ numbers-kept player color [] classes 0 refl

    range-colors : All (λ e. e.color ≡ color) (slice_range entries from to)
    range-colors =
        All-from_recursion (λ (e : Entry). e.color ≡ color) (slice_range entries from to)
        (subst (AllByRecursion (λ (e : Entry). e.color ≡ color)) all-kept (kept-colors classes player color entries))

    pub is-range : IsRange classes entries player color from to
    is-range = record { ordered = range-ordered; within = to_within; numbers = range-numbers; colors = range-colors }

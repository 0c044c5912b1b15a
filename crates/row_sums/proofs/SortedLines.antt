-- The lines of months and of moves, sorted.
use Rattle.std.proofs.Common.{◌≡◌, ℕ, ◌==◌, nat_lt, Bool, true, false, ◌||◌, ◌&&◌, inl, inr, List, [], ◌∷◌, length, map, take, IsPermutation, refl, sym, ap, subst, ◌∙◌, arith}
use Rattle.std.specs.Cmp.{IsStrictWeakOrder}
use Rattle.std.specs.List.{AllByRecursion, IsDistinct}
use Rattle.std.specs.List.Sorted.{IsSortedBy, IsNonDecreasingBy}
use Rattle.std.proofs.lemmas.Bool.Decides.{nat_tests}
use Rattle.std.proofs.lemmas.List.{length-map, take_all}
use Rattle.std.proofs.lemmas.List.Elements.{All-from_recursion, recursion_from_All}
use Rattle.std.proofs.lemmas.List.Sorted.{length_permutation, sorted_far}
use Rattle.best_lists.proofs.BestLaws.{All-best, best-map}
use Rattle.best_lists.proofs.Ranked.{before-asym, not_before-trans}
use Rattle.explorer_model.specs.Best.{best, IsStrictTotalOrder}
use Rattle.explorer_model.specs.Counting.{before_in_time, is_same_month, month_number, total}
use Rattle.explorer_model.specs.declared.answer.MonthLine.{MonthLine}
use Rattle.explorer_model.specs.declared.archive.Month.{Month}
use Rattle.explorer_model.specs.declared.chess.Move.{Move}
use Rattle.row_sums.specs.Hits.{NumberedRow}
use Rattle.row_sums.specs.MoveSums.{before_as_line, before_as_sum, sum_as}
use Rattle.row_sums.specs.Sums.{before_by_total, history_in, month_line, months_in, moves_in}
use Rattle.row_sums.specs.declared.moves.MoveSum.{MoveSum}
use Rattle.row_sums.proofs.Once.{once-distinct}
use Rattle.row_sums.proofs.RowMoves.{same_month-transitive}
use Rattle.row_sums.proofs.Sorting.{sorted-best}
use Rattle.tally_rows.proofs.Members.{IsIn, Found-map}
use Rattle.tally_rows.proofs.Moves.{text_before, text_before-order}

-- ---- months

nat-order : IsStrictTotalOrder nat_lt
nat-order = record {
  irreflexive = λ a. grind (arith, nat_tests);
  transitive = λ a b c p q. grind (arith, nat_tests);
  total = λ a b p q. grind (arith, nat_tests);
}

module _ {X : Type 0} (same : X → X → Bool) (flips : (x y : X) → same x y ≡ true → same y x ≡ true) where
  apart-in : (x : X) (ys : List X) → AllByRecursion (λ y. same x y ≡ false) ys → (y : X) → IsIn y ys → same x y ≡ false
  apart-in x [] each y m = absurd m
  apart-in x (z ∷ zs) each y (inl is) = ap (same x) is ∙ each.0
  apart-in x (z ∷ zs) each y (inr m) = apart-in x zs each.1 y m

  one-of-distinct : (xs : List X) → IsDistinct same xs → (x y : X) → IsIn x xs → IsIn y xs → same x y ≡ true → x ≡ y
  unfolding IsDistinct
  one-of-distinct [] once x y m n is = absurd m
  one-of-distinct (z ∷ zs) once x y (inl is_x) (inl is_y) is = is_x ∙ sym is_y
  one-of-distinct (z ∷ zs) once x y (inl is_x) (inr n) is = (let other = ap (λ w. same w y) is_x ∙ apart-in z zs once.0 y n in cc)
  one-of-distinct (z ∷ zs) once x y (inr m) (inl is_y) is =
      let other = ap (λ w. same w x) is_y ∙ apart-in z zs once.0 x m in let back = flips x y is in cc
  one-of-distinct (z ∷ zs) once x y (inr m) (inr n) is = one-of-distinct zs once.1 x y m n is

month-flips : (a b : Month) → is_same_month a b ≡ true → is_same_month b a ≡ true
month-flips a b e = grind (arith, nat_tests)

month-same : (a b : Month) → month_number a ≡ month_number b → is_same_month a b ≡ true
month-same a b e = grind (arith, nat_tests)

module _ (hits : List NumberedRow) where
  months-distinct : IsDistinct is_same_month (months_in hits)
  unfolding months_in
  months-distinct = once-distinct is_same_month same_month-transitive (map (λ h. h.row.month) hits)

  one-line : (a b : MonthLine) → IsIn a (map (month_line hits) (months_in hits)) → IsIn b (map (month_line hits) (months_in hits))
      → month_number a.month ≡ month_number b.month → a ≡ b
  one-line a b m n e =
      let of_a = Found-map (month_line hits) (months_in hits) a m in
      let of_b = Found-map (month_line hits) (months_in hits) b n in
      let numbers : month_number of_a.value ≡ month_number of_b.value =
      ap (λ line. month_number line.month) of_a.holds ∙ (e ∙ sym (ap (λ line. month_number line.month) of_b.holds)) in
      let same = one-of-distinct is_same_month month-flips (months_in hits) months-distinct of_a.value of_b.value of_a.is_in of_b.is_in
      (month-same of_a.value of_b.value numbers) in
      sym of_a.holds ∙ ap (month_line hits) same ∙ of_b.holds

  pub history-sorted : (lines sorted : List MonthLine) → lines ≡ map (month_line hits) (months_in hits) → IsPermutation lines sorted
      → IsNonDecreasingBy (λ line. month_number line.month) sorted → sorted ≡ history_in hits
  history-sorted lines sorted are permuted ascending =
      let n = length (months_in hits) in
      let long : length sorted ≡ n = length_permutation lines sorted permuted ∙ ap length are ∙ length-map (months_in hits) (month_line hits) in
      let One : List MonthLine → Type 0 = λ l. (a b : MonthLine) → IsIn a l → IsIn b l → month_number a.month ≡ month_number b.month → a ≡ b in
      sym (take_all n sorted (omega (arith, long)))
      ∙ sorted-best (λ line. month_number line.month) nat-order n lines sorted permuted
      (λ i j d less within. let le = ascending i j d (omega arith) within in grind (arith, nat_tests)) (subst One (sym are) one-line)
      ∙ ap (best before_as_line n) are ∙ best-map (month_line hits) before_in_time before_as_line (λ a b. refl) n (months_in hits)

-- ---- moves

-- the greater number first, then by another order
lex-order : {M : Type 0} {then : M → M → Bool} → IsStrictTotalOrder then
    → IsStrictTotalOrder (λ (a b : ℕ × M). nat_lt b.0 a.0 || ((a.0 == b.0) && then a.1 b.1))
lex-order {M} {then} order = record {
  irreflexive = λ a. let h = order.irreflexive a.1 in grind (arith, nat_tests);
  transitive = λ a b c p q. let h = order.transitive a.1 b.1 c.1 in grind (arith, nat_tests);
  total = λ a b p q.
      let number : a.0 ≡ b.0 = grind (arith, nat_tests) in
      let one_way : then a.1 b.1 ≡ false = grind (arith, nat_tests) in
      let other_way : then b.1 a.1 ≡ false = grind (arith, nat_tests) in
      let move = order.total a.1 b.1 one_way other_way in
      λ i. (number i, move i);
}

abbrev pair_before : ℕ × Move → ℕ × Move → Bool
pair_before a b = nat_lt b.0 a.0 || ((a.0 == b.0) && text_before a.1 b.1)

pair-order : IsStrictTotalOrder pair_before
pair-order = lex-order text_before-order

abbrev pair_of : MoveSum → ℕ × Move
pair_of sum = (total sum.totals, sum.next)

pub sum-order : IsStrictWeakOrder before_as_sum
sum-order = record {
  one_way = λ a b p. before-asym pair-order (pair_of a) (pair_of b) p;
  chain = λ a b c p q. not_before-trans pair-order (pair_of c) (pair_of b) (pair_of a) q p;
}

module _ (hits : List NumberedRow) where
  one-sum : (a b : MoveSum) → IsIn a (map (sum_as hits) (moves_in hits)) → IsIn b (map (sum_as hits) (moves_in hits)) → pair_of a ≡ pair_of b → a ≡ b
  one-sum a b m n e =
      let of_a = Found-map (sum_as hits) (moves_in hits) a m in
      let of_b = Found-map (sum_as hits) (moves_in hits) b n in
      let next : of_a.value ≡ of_b.value = ap (λ s. s.next) of_a.holds ∙ (ap (λ p. p.1) e ∙ sym (ap (λ s. s.next) of_b.holds)) in
      sym of_a.holds ∙ ap (sum_as hits) next ∙ of_b.holds

  pub sums-sorted : (most : ℕ) (sums sorted : List MoveSum) → sums ≡ map (sum_as hits) (moves_in hits) → IsPermutation sums sorted
      → IsSortedBy before_as_sum sorted → take most sorted ≡ map (sum_as hits) (best (before_by_total hits) most (moves_in hits))
  sums-sorted most sums sorted are permuted ordered =
      let One : List MoveSum → Type 0 = λ l. (a b : MoveSum) → IsIn a l → IsIn b l → pair_of a ≡ pair_of b → a ≡ b in
      sorted-best pair_of pair-order most sums sorted permuted
      (λ i j d less within. sorted_far before_as_sum sum-order sorted ordered i j d (omega arith) within) (subst One (sym are) one-sum)
      ∙ ap (best before_as_sum most) are ∙ best-map (sum_as hits) (before_by_total hits) before_as_sum (λ a b. refl) most (moves_in hits)

-- ---- the sums of moves

-- what holds of each move holds of its sum
pub sums-of : (P : Move → Type 0) (hits : List NumberedRow) (moves : List Move) → AllByRecursion P moves
    → AllByRecursion (λ (sum : MoveSum). P sum.next) (map (sum_as hits) moves)
sums-of P hits [] each = tt
sums-of P hits (m ∷ moves) each = (each.0, sums-of P hits moves each.1)

-- what holds of each move of rows holds of the moves that are listed first
pub sums-have : (P : Move → Type 0) (hits : List NumberedRow) (most : ℕ) → AllByRecursion P (moves_in hits)
    → AllByRecursion (λ (sum : MoveSum). P sum.next) (map (sum_as hits) (best (before_by_total hits) most (moves_in hits)))
sums-have P hits most each =
    sums-of P hits (best (before_by_total hits) most (moves_in hits))
    (recursion_from_All P (best (before_by_total hits) most (moves_in hits))
    (All-best (before_by_total hits) P most (moves_in hits) (All-from_recursion P (moves_in hits) each)))

pub sums-are : (hits : List NumberedRow) (moves : List Move) → AllByRecursion (λ (sum : MoveSum). sum ≡ sum_as hits sum.next) (map (sum_as hits) moves)
sums-are hits [] = tt
sums-are hits (m ∷ moves) = (refl, sums-are hits moves)

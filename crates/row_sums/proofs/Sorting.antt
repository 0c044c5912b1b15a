-- A list in order begins with the best of a list of the same values.
use Rattle.std.proofs.Common.{◌≡◌, ℕ, zero, suc, Bool, false, List, [], ◌∷◌, length, map, take, drop, get_or, IsPermutation, refl, sym, ap, ◌∙◌, arith}
use Rattle.std.specs.List.{All, AllByRecursion}
use Rattle.std.proofs.lemmas.List.Elements.{All-take, recursion_from_All}
use Rattle.std.proofs.lemmas.List.Sorted.{All-permutation, IsPermutation-map}
use Rattle.best_lists.proofs.BestLaws.{best-map, All-best}
use Rattle.best_lists.proofs.Same.{best-IsPermutation}
use Rattle.explorer_model.specs.Best.{best, best_one, others, IsBestFirst, IsStrictTotalOrder}
use Rattle.tally_rows.proofs.Members.{IsIn, All-from_IsIn}

-- ---- a list that is best first

module _ {X : Type 0} (before : X → X → Bool) where
  first-stays : (x : X) (ys : List X) → AllByRecursion (λ y. before y x ≡ false) ys → best_one before x ys ≡ x
  unfolding best_one
  first-stays x [] each = refl
  first-stays x (y ∷ ys) each = rw each.0 (first-stays x ys each.1)

  others-stay : (x : X) (ys : List X) → AllByRecursion (λ y. before y x ≡ false) ys → others before x ys ≡ ys
  unfolding others
  others-stay x [] each = refl
  others-stay x (y ∷ ys) each = rw each.0 (ap (λ l. y ∷ l) (others-stay x ys each.1))

  behind-first : (x : X) (ys : List X) → IsBestFirst before (x ∷ ys) → AllByRecursion (λ y. before y x ≡ false) ys
  behind-first x ys first = recursion_from_All (λ y. before y x ≡ false) ys (λ k d within. first 0 (suc k) d (omega arith) (omega arith))

  best-first-rest : (x : X) (ys : List X) → IsBestFirst before (x ∷ ys) → IsBestFirst before ys
  best-first-rest x ys first = λ i j d less within. first (suc i) (suc j) d (omega arith) (omega arith)

  best-in_order : (n : ℕ) (xs : List X) → IsBestFirst before xs → best before n xs ≡ take n xs
  unfolding best
  best-in_order zero xs first = refl
  best-in_order (suc n) [] first = refl
  best-in_order (suc n) (x ∷ xs) first =
      let behind = behind-first x xs first in
      ap (λ y. y ∷ best before n (others before x xs)) (first-stays x xs behind)
      ∙ ap (λ l. x ∷ best before n l) (others-stay x xs behind)
      ∙ ap (λ l. x ∷ l) (best-in_order n xs (best-first-rest x xs first))

-- ---- lists of values that are known by what they are mapped to

module _ {X Y : Type 0} (f : X → Y) (P : X → Type 0) (one : (a b : X) → P a → P b → f a ≡ f b → a ≡ b) where
  same-mapped : (xs ys : List X) → AllByRecursion P xs → AllByRecursion P ys → map f xs ≡ map f ys → xs ≡ ys
  same-mapped [] [] each every e = refl
  same-mapped [] (y ∷ ys) each every e = (let long : 0 ≡ suc (length (map f ys)) = ap length e in absurd (omega arith))
  same-mapped (x ∷ xs) [] each every e = (let long : suc (length (map f xs)) ≡ 0 = ap length e in absurd (omega arith))
  same-mapped (x ∷ xs) (y ∷ ys) each every e =
      let first : f x ≡ f y = ap (λ l. get_or l 0 (f x)) e in
      ap (λ z. z ∷ xs) (one x y each.0 every.0 first) ∙ ap (λ l. y ∷ l) (same-mapped xs ys each.1 every.1 (ap (drop 1) e))

-- where values are told apart by what an order orders, and stand in that order
module _ {X Y : Type 0} (f : X → Y) {on_y : Y → Y → Bool} (order : IsStrictTotalOrder on_y) where
  pub sorted-best : (n : ℕ) (xs sorted : List X) → IsPermutation xs sorted → IsBestFirst (λ a b. on_y (f a) (f b)) sorted
      → ((a b : X) → IsIn a xs → IsIn b xs → f a ≡ f b → a ≡ b)
      → take n sorted ≡ best (λ a b. on_y (f a) (f b)) n xs
  sorted-best n xs sorted permuted first one =
      let before : X → X → Bool = λ a b. on_y (f a) (f b) in
      let In : X → Type 0 = λ x. IsIn x xs in
      let each : All In xs = All-from_IsIn In xs (λ x m. m) in
      let of_sorted : map f (take n sorted) ≡ best on_y n (map f sorted) =
      ap (map f) (sym (best-in_order before n sorted first)) ∙ sym (best-map f before on_y (λ a b. refl) n sorted) in
      let of_xs : best on_y n (map f xs) ≡ map f (best before n xs) = best-map f before on_y (λ a b. refl) n xs in
      let same : map f (take n sorted) ≡ map f (best before n xs) =
      of_sorted ∙ sym (best-IsPermutation order n (map f xs) (map f sorted) (IsPermutation-map f xs sorted permuted)) ∙ of_xs in
      same-mapped f In one (take n sorted) (best before n xs)
      (recursion_from_All In (take n sorted) (All-take In n sorted (All-permutation In xs sorted permuted each)))
      (recursion_from_All In (best before n xs) (All-best before In n xs each)) same

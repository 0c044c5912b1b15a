-- Lists with the same values have the same best, and the best are values of the list, none of them after one that is left.
use Rattle.std.proofs.Common.{◌≡◌, ℕ, ◌+◌, ◌<◌, Bool, true, false, not, ◌&&◌, cond, min, List, [], ◌∷◌, ◌++◌, length, take, drop, if◌then◌else◌, refl, sym, ap, subst, ◌∙◌, arith}
use Rattle.std.specs.List.{count_by}
use Rattle.std.specs.List.Sorted.{IsPermutation}
use Rattle.std.proofs.lemmas.List.{length-take, take-append-drop}
use Rattle.std.proofs.lemmas.List.Sums.{sum_by-cons}
use Rattle.std.proofs.lemmas.List.Sorted.{sum_by-IsPermutation}
use Rattle.explorer_model.specs.Best.{IsStrictTotalOrder, best, IsBestFirst}
use Rattle.best_lists.proofs.Ranked.{put, ranked, put-comm, length-ranked}
use Rattle.best_lists.proofs.BestLaws.{best_is, IsBestFirst-ranked}

-- whether neither is before the other; then they are one value
abbrev pub ties : {X : Type 0} → (X → X → Bool) → X → X → Bool
ties before x y = not (before x y) && not (before y x)

count-cons : {X : Type 0} (p : X → Bool) (x : X) (xs : List X) → count_by p (x ∷ xs) ≡ cond (p x) 1 0 + count_by p xs
count-cons p x xs = sum_by-cons (λ y. cond (p y) 1 0) x xs

count-test : {X : Type 0} (p : X → Bool) (x : X) (xs : List X) (b : Bool) → p x ≡ b → count_by p (x ∷ xs) ≡ cond b 1 0 + count_by p xs
count-test p x xs b e = count-cons p x xs ∙ ap (λ c. cond {A = ℕ} c 1 0 + count_by p xs) e

-- a list in its order has the same values
module _ {X : Type 0} (before : X → X → Bool) (p : X → Bool) where
  count-put : (x : X) (ys : List X) → count_by p (put before x ys) ≡ count_by p (x ∷ ys)
  unfolding put
  count-put x [] = refl
  count-put x (y ∷ ys) =
      elim (before y x) as (λ b. count_by p (if b then y ∷ put before x ys else x ∷ y ∷ ys) ≡ count_by p (x ∷ y ∷ ys)) [
        | true ↦ omega (
          arith,
          count-cons p y (put before x ys),
          count-put x ys,
          count-cons p x ys,
          count-cons p x (y ∷ ys),
          count-cons p y ys,
        )
        | false ↦ refl
      ]

  count-ranked : (xs : List X) → count_by p (ranked before xs) ≡ count_by p xs
  unfolding ranked
  count-ranked [] = refl
  count-ranked (x ∷ xs) =
      count-put x (ranked before xs) ∙ count-cons p x (ranked before xs) ∙ ap (λ n. cond (p x) 1 0 + n) (count-ranked xs)
      ∙ sym (count-cons p x xs)

module _ {X : Type 0} {before : X → X → Bool} (order : IsStrictTotalOrder before) where
  ties-self : (x : X) → ties before x x ≡ true
  ties-self x = rw (order.irreflexive x)

  pub ties-same : (x y : X) → ties before x y ≡ true → x ≡ y
  ties-same x y h = grind (arith, order.total)

  -- x taken out of a list that has it
  record TakesOut (x : X) (ys : List X) : Type 0 where
    rest : List X
    in_order : ranked before ys ≡ put before x (ranked before rest)
    counts : (e : X) → count_by (ties before e) ys ≡ count_by (ties before e) (x ∷ rest)

  take_out : (x : X) (ys : List X) → 0 < count_by (ties before x) ys → TakesOut x ys
  unfolding ranked
  take_out x [] h = absurd (omega arith)
  take_out x (y ∷ ys) h =
      elim (ties before x y) as (λ b. ties before x y ≡ b → TakesOut x (y ∷ ys)) [
        | true ↦ λ e. let first : TakesOut x (x ∷ ys) = record { rest = ys; in_order = refl; counts = λ d. refl } in
            subst (λ z. TakesOut x (z ∷ ys)) (ties-same x y e) first
        | false ↦ λ e.
            let behind : 0 < count_by (ties before x) ys = omega (arith, count-test (ties before x) y ys false e) in
            let later = take_out x ys behind in
            record {
              rest = y ∷ later.rest;
              in_order = ap (put before y) later.in_order ∙ put-comm order y x (ranked before later.rest);
              counts = λ d.
                  let p = ties before d in
                  omega (
                    arith,
                    later.counts d,
                    count-cons p y ys,
                    count-cons p x later.rest,
                    count-cons p y later.rest,
                    count-cons p x (y ∷ later.rest),
                  );
            }
      ] refl

  pub ranked-same : (xs ys : List X) → ((e : X) → count_by (ties before e) xs ≡ count_by (ties before e) ys)
      → ranked before xs ≡ ranked before ys
  unfolding ranked
  ranked-same [] [] h = refl
  ranked-same [] (y ∷ ys) h = absurd (omega (arith, h y, count-test (ties before y) y ys true (ties-self y)))
  ranked-same (x ∷ xs) ys h =
      let stands : 0 < count_by (ties before x) ys = omega (arith, h x, count-test (ties before x) x xs true (ties-self x)) in
      let taken = take_out x ys stands in
      let same = λ (e : X). let p = ties before e in
      let cancel : count_by p xs ≡ count_by p taken.rest = omega (arith, h e, taken.counts e, count-cons p x xs, count-cons p x taken.rest) in
      cancel in
      ap (put before x) (ranked-same xs taken.rest same) ∙ sym taken.in_order

  pub best-same : (n : ℕ) (xs ys : List X) → ((e : X) → count_by (ties before e) xs ≡ count_by (ties before e) ys)
      → best before n xs ≡ best before n ys
  best-same n xs ys h = best_is order n xs ∙ ap (take n) (ranked-same xs ys h) ∙ sym (best_is order n ys)

  pub best-IsPermutation : (n : ℕ) (xs ys : List X) → IsPermutation xs ys → best before n xs ≡ best before n ys
  best-IsPermutation n xs ys h = best-same n xs ys (λ e. sym (sum_by-IsPermutation (λ x. cond (ties before e x) 1 0) xs ys h))

-- The best of a list: with what is left they are the values of the list, best first, and as many as are asked for or there are.
pub record IsBestOf {X : Type 0} (before : X → X → Bool) (n : ℕ) (xs firsts : List X) : Type 0 where
  pub rest : List X
  pub best_first : IsBestFirst before (firsts ++ rest)
  pub same_values : (p : X → Bool) → count_by p (firsts ++ rest) ≡ count_by p xs
  pub as_many : length firsts ≡ min n (length xs)

pub best-IsBestOf : {X : Type 0} {before : X → X → Bool} → IsStrictTotalOrder before → (n : ℕ) (xs : List X)
    → IsBestOf before n xs (best before n xs)
best-IsBestOf {X} {before} order n xs =
    let all = ranked before xs in
    let whole : best before n xs ++ drop n all ≡ all = ap (λ l. l ++ drop n all) (best_is order n xs) ∙ take-append-drop n all in
    record {
      rest = drop n all;
      best_first = subst (IsBestFirst before) (sym whole) (IsBestFirst-ranked order xs);
      same_values = λ p. ap (count_by p) whole ∙ count-ranked before p xs;
      as_many = ap length (best_is order n xs) ∙ length-take n all ∙ ap (min n) (length-ranked before xs);
    }

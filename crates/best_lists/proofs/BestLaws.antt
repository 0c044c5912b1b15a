-- The laws of `best`.
use Rattle.std.proofs.Common.{◌≡◌, ℕ, ◌≤◌, zero, suc, Bool, true, false, List, [], ◌∷◌, ◌++◌, map, length, take, if◌then◌else◌, refl, sym, ap, subst, ◌∙◌, append-nil, arith}
use Rattle.std.specs.List.{All, flat_map}
use Rattle.std.proofs.lemmas.List.{take_all, take-take, length-take}
use Rattle.std.proofs.lemmas.List.Elements.{All-cons, All-head, All-tail}
use Rattle.std.proofs.lemmas.List.Kept.{AllPairs-cons}
use Rattle.explorer_model.specs.Best.{IsStrictTotalOrder, better, worse, best_one, others, best, IsBestFirst, SplitsBest}
use Rattle.best_lists.proofs.Ranked.{put, ranked, Behind, InOrder, put-least, put-comm, not_before-trans, before-asym, InOrder-ranked, InOrder-take, ranked-InOrder, ranked-comm, top-both, ranked-first_left, ranked-first_right, Behind-InOrder}

-- `IsBestFirst`, by recursion
module _ {X : Type 0} (before : X → X → Bool) where
  All-Behind : (x : X) (ys : List X) → Behind before x ys → All (λ y. before y x ≡ false) ys
  All-Behind x [] h = λ k d below. absurd (omega arith)
  All-Behind x (y ∷ ys) h = All-cons (λ z. before z x ≡ false) y ys h.0 (All-Behind x ys h.1)

  Behind-All : (x : X) (ys : List X) → All (λ y. before y x ≡ false) ys → Behind before x ys
  Behind-All x [] h = tt
  Behind-All x (y ∷ ys) h = (All-head (λ z. before z x ≡ false) y ys h, Behind-All x ys (All-tail (λ z. before z x ≡ false) y ys h))

  IsBestFirst-InOrder : (xs : List X) → InOrder before xs → IsBestFirst before xs
  IsBestFirst-InOrder [] h = λ i j d below within. absurd (omega arith)
  IsBestFirst-InOrder (x ∷ xs) h =
      AllPairs-cons (λ y z. before z y ≡ false) x xs (All-Behind x xs h.0) (IsBestFirst-InOrder xs h.1)

  InOrder-IsBestFirst : (xs : List X) → IsBestFirst before xs → InOrder before xs
  InOrder-IsBestFirst [] h = tt
  InOrder-IsBestFirst (x ∷ xs) h = (
    Behind-All x xs (λ k d below. h 0 (suc k) d (omega arith) (omega arith)),
    InOrder-IsBestFirst xs (λ i j d below within. h (suc i) (suc j) d (omega arith) (omega arith)),
  )

module _ {X : Type 0} {before : X → X → Bool} (order : IsStrictTotalOrder before) where
  not_before-better : (x y : X) → before x (better before x y) ≡ false
  not_before-better x y = grind (arith, order.irreflexive, order.transitive)

  not_before-worse : (x y : X) → before (worse before x y) (better before x y) ≡ false
  not_before-worse x y = grind (arith, order.irreflexive, order.transitive)

  -- nothing in the list is before its best one
  not_before-best_one : (x : X) (ys : List X) → before x (best_one before x ys) ≡ false
  unfolding best_one
  not_before-best_one x [] = order.irreflexive x
  not_before-best_one x (y ∷ ys) =
      not_before-trans order (best_one before (better before x y) ys) (better before x y) x
      (not_before-best_one (better before x y) ys) (not_before-better x y)

  put-behind : (x y : X) (ys : List X) → before x y ≡ false → Behind before y ys → put before x (y ∷ ys) ≡ y ∷ put before x ys
  unfolding put
  put-behind x y ys h k =
      elim (before y x) as (λ b. before y x ≡ b → (if b then y ∷ put before x ys else x ∷ y ∷ ys) ≡ y ∷ put before x ys) [
        | true ↦ λ e. refl
        | false ↦ λ e.
            let same : x ≡ y = order.total x y h e in
            let least : put before x ys ≡ x ∷ ys = put-least before x ys (subst (λ z. Behind before z ys) (sym same) k) in
            cc
      ] refl

  ranked-worse : (x y : X) (ys : List X) → ranked before (x ∷ y ∷ ys) ≡ put before (worse before x y) (ranked before (better before x y ∷ ys))
  unfolding ranked
  ranked-worse x y ys =
      elim (before y x) as (λ b. ranked before (x ∷ y ∷ ys) ≡ put before (if b then x else y) (ranked before ((if b then y else x) ∷ ys))) [
        | true ↦ refl
        | false ↦ put-comm order x y (ranked before ys)
      ]

  -- in a list in order the best one comes first
  ranked-best_one : (x : X) (ys : List X) → ranked before (x ∷ ys) ≡ best_one before x ys ∷ ranked before (others before x ys)
  unfolding ranked best_one others put
  ranked-best_one x [] = refl
  ranked-best_one x (y ∷ ys) =
      let z = better before x y in
      let w = worse before x y in
      let first = best_one before z ys in
      let rest = ranked before (others before z ys) in
      let split : ranked before (z ∷ ys) ≡ first ∷ rest = ranked-best_one z ys in
      let in_order : InOrder before (first ∷ rest) = subst (InOrder before) split (InOrder-ranked order (z ∷ ys)) in
      ranked-worse x y ys ∙ ap (put before w) split
      ∙ put-behind w first rest (not_before-trans order first z w (not_before-best_one z ys) (not_before-worse x y)) in_order.0

  -- the best are the first in order
  pub best_is : (n : ℕ) (xs : List X) → best before n xs ≡ take n (ranked before xs)
  unfolding best ranked
  best_is zero xs = refl
  best_is (suc n) [] = refl
  best_is (suc n) (x ∷ xs) =
      ap (λ l. best_one before x xs ∷ l) (best_is n (others before x xs)) ∙ ap (take (suc n)) (sym (ranked-best_one x xs))

  -- the best of both are the best of the best of each
  pub best-append : (n : ℕ) (xs ys : List X) → best before n (xs ++ ys) ≡ best before n (best before n xs ++ best before n ys)
  best-append n xs ys =
      best_is n (xs ++ ys) ∙ top-both order n xs ys
      ∙ sym (best_is n (best before n xs ++ best before n ys)
      ∙ ap (λ l. take n (ranked before (l ++ best before n ys))) (best_is n xs)
      ∙ ap (λ l. take n (ranked before (take n (ranked before xs) ++ l))) (best_is n ys))

  -- the best don't depend on how the list stood
  pub best-comm : (n : ℕ) (xs ys : List X) → best before n (xs ++ ys) ≡ best before n (ys ++ xs)
  best-comm n xs ys = best_is n (xs ++ ys) ∙ ap (take n) (ranked-comm order xs ys) ∙ sym (best_is n (ys ++ xs))

  -- values in order, none more than n, are their own best
  best-InOrder : (n : ℕ) (xs : List X) → InOrder before xs → length xs ≤ n → best before n xs ≡ xs
  best-InOrder n xs h k = best_is n xs ∙ ap (take n) (ranked-InOrder before xs h) ∙ take_all n xs k

  InOrder-best : (n : ℕ) (xs : List X) → InOrder before (best before n xs)
  InOrder-best n xs = rw (best_is n xs) (InOrder-take before n _ (InOrder-ranked order xs))

  pub IsBestFirst-ranked : (xs : List X) → IsBestFirst before (ranked before xs)
  IsBestFirst-ranked xs = IsBestFirst-InOrder before (ranked before xs) (InOrder-ranked order xs)

  pub length-best : (n : ℕ) (xs : List X) → length (best before n xs) ≤ n
  length-best n xs = rw (best_is n xs) (omega (arith, length-take n (ranked before xs)))

  pub best-best : (n : ℕ) (xs : List X) → best before n (best before n xs) ≡ best before n xs
  best-best n xs = best-InOrder n (best before n xs) (InOrder-best n xs) (length-best n xs)

  -- the best few are the first few of the best
  pub take-best : (m n : ℕ) (xs : List X) → m ≤ n → take m (best before n xs) ≡ best before m xs
  take-best m n xs h = ap (take m) (best_is n xs) ∙ take-take m n (ranked before xs) h ∙ sym (best_is m xs)

  -- a few in their order are their own best
  pub best-IsBestFirst : (n : ℕ) (xs : List X) → IsBestFirst before xs → length xs ≤ n → best before n xs ≡ xs
  best-IsBestFirst n xs h k = best-InOrder n xs (InOrder-IsBestFirst before xs h) k

  pub IsBestFirst-best : (n : ℕ) (xs : List X) → IsBestFirst before (best before n xs)
  IsBestFirst-best n xs = IsBestFirst-InOrder before (best before n xs) (InOrder-best n xs)

  -- the best of many lists are the best of the best of each
  pub best-flat_map : {A : Type 0} (n : ℕ) (f : A → List X) (lists : List A)
      → best before n (flat_map f lists) ≡ best before n (flat_map (λ a. best before n (f a)) lists)
  best-flat_map n f [] = refl
  best-flat_map n f (a ∷ rest) =
      let all = flat_map f rest in
      let bests = flat_map (λ b. best before n (f b)) rest in
      best-append n (f a) all ∙ ap (λ l. best before n (best before n (f a) ++ l)) (best-flat_map n f rest)
      ∙ ap (λ l. best before n (l ++ best before n bests)) (sym (best-best n (f a)))
      ∙ sym (best-append n (best before n (f a)) bests)

  -- how two lists that are best first are taken apart
  SplitsBest-left : (x : X) (xs ys : List X) → IsBestFirst before (x ∷ xs) → IsBestFirst before ys → Behind before x ys
      → SplitsBest before (x ∷ xs) ys x xs ys
  SplitsBest-left x xs ys h k behind =
      let in_order : InOrder before (x ∷ xs) = InOrder-IsBestFirst before (x ∷ xs) h in
      record {
        best_of_both = λ n. best_is (suc n) (x ∷ xs ++ ys) ∙ ap (take (suc n)) (ranked-first_left order x xs ys in_order behind)
            ∙ ap (λ l. x ∷ l) (sym (best_is n (xs ++ ys)));
        left_in_order = IsBestFirst-InOrder before xs in_order.1;
        right_in_order = k;
      }

  SplitsBest-right : (xs : List X) (y : X) (ys : List X) → IsBestFirst before xs → IsBestFirst before (y ∷ ys) → Behind before y xs
      → SplitsBest before xs (y ∷ ys) y xs ys
  SplitsBest-right xs y ys h k behind =
      let in_order : InOrder before (y ∷ ys) = InOrder-IsBestFirst before (y ∷ ys) k in
      record {
        best_of_both = λ n. best_is (suc n) (xs ++ y ∷ ys) ∙ ap (take (suc n)) (ranked-first_right order xs y ys in_order behind)
            ∙ ap (λ l. y ∷ l) (sym (best_is n (xs ++ ys)));
        left_in_order = h;
        right_in_order = IsBestFirst-InOrder before ys in_order.1;
      }

  pub SplitsBest-left_alone : (x : X) (xs : List X) → IsBestFirst before (x ∷ xs) → SplitsBest before (x ∷ xs) [] x xs []
  SplitsBest-left_alone x xs h = SplitsBest-left x xs [] h (IsBestFirst-InOrder before [] tt) tt

  pub SplitsBest-right_alone : (y : X) (ys : List X) → IsBestFirst before (y ∷ ys) → SplitsBest before [] (y ∷ ys) y [] ys
  SplitsBest-right_alone y ys k = SplitsBest-right [] y ys (IsBestFirst-InOrder before [] tt) k tt

  pub SplitsBest-left_first : (x : X) (xs : List X) (y : X) (ys : List X) → IsBestFirst before (x ∷ xs) → IsBestFirst before (y ∷ ys)
      → before y x ≡ false → SplitsBest before (x ∷ xs) (y ∷ ys) x xs (y ∷ ys)
  SplitsBest-left_first x xs y ys h k e =
      SplitsBest-left x xs (y ∷ ys) h k (Behind-InOrder order x y ys (InOrder-IsBestFirst before (y ∷ ys) k) e)

  pub SplitsBest-right_first : (x : X) (xs : List X) (y : X) (ys : List X) → IsBestFirst before (x ∷ xs) → IsBestFirst before (y ∷ ys)
      → before y x ≡ true → SplitsBest before (x ∷ xs) (y ∷ ys) y (x ∷ xs) ys
  SplitsBest-right_first x xs y ys h k e =
      SplitsBest-right (x ∷ xs) y ys h k
      (Behind-InOrder order y x xs (InOrder-IsBestFirst before (x ∷ xs) h) (before-asym order y x e))

-- a map that keeps the order keeps the best
module _ {X Y : Type 0} (f : X → Y) (on_x : X → X → Bool) (on_y : Y → Y → Bool) (keeps : (x z : X) → on_y (f x) (f z) ≡ on_x x z) where
  better-map : (x z : X) → better on_y (f x) (f z) ≡ f (better on_x x z)
  better-map x z = rw (keeps z x) (elim (on_x z x) as (λ b. (if b then f z else f x) ≡ f (if b then z else x)) [ true ↦ refl | false ↦ refl ])

  worse-map : (x z : X) → worse on_y (f x) (f z) ≡ f (worse on_x x z)
  worse-map x z = rw (keeps z x) (elim (on_x z x) as (λ b. (if b then f x else f z) ≡ f (if b then x else z)) [ true ↦ refl | false ↦ refl ])

  best_one-map : (x : X) (xs : List X) → best_one on_y (f x) (map f xs) ≡ f (best_one on_x x xs)
  unfolding best_one
  best_one-map x [] = refl
  best_one-map x (z ∷ zs) = ap (λ y. best_one on_y y (map f zs)) (better-map x z) ∙ best_one-map (better on_x x z) zs

  others-map : (x : X) (xs : List X) → others on_y (f x) (map f xs) ≡ map f (others on_x x xs)
  unfolding others
  others-map x [] = refl
  others-map x (z ∷ zs) =
      let first = better on_x x z in
      ap (λ y. worse on_y (f x) (f z) ∷ others on_y y (map f zs)) (better-map x z)
      ∙ ap (λ y. y ∷ others on_y (f first) (map f zs)) (worse-map x z) ∙ ap (λ l. f (worse on_x x z) ∷ l) (others-map first zs)

  pub best-map : (n : ℕ) (xs : List X) → best on_y n (map f xs) ≡ map f (best on_x n xs)
  unfolding best
  best-map zero xs = refl
  best-map (suc n) [] = refl
  best-map (suc n) (x ∷ xs) =
      ap (λ y. y ∷ best on_y n (others on_y (f x) (map f xs))) (best_one-map x xs)
      ∙ ap (λ l. f (best_one on_x x xs) ∷ l) (ap (best on_y n) (others-map x xs) ∙ best-map n (others on_x x xs))

  put-map : (x : X) (zs : List X) → put on_y (f x) (map f zs) ≡ map f (put on_x x zs)
  unfolding put
  put-map x [] = refl
  put-map x (z ∷ zs) =
      rw (keeps z x) (elim (on_x z x) as (λ b. (if b then f z ∷ put on_y (f x) (map f zs) else f x ∷ f z ∷ map f zs)
      ≡ map f (if b then z ∷ put on_x x zs else x ∷ z ∷ zs)) [
        | true ↦ ap (λ l. f z ∷ l) (put-map x zs)
        | false ↦ refl
      ])

  pub ranked-map : (xs : List X) → ranked on_y (map f xs) ≡ map f (ranked on_x xs)
  unfolding ranked
  ranked-map [] = refl
  ranked-map (x ∷ xs) = ap (put on_y (f x)) (ranked-map xs) ∙ put-map x (ranked on_x xs)

-- nothing is left behind what was taken
pub taken-all : {X : Type 0} (taken rest whole : List X) → taken ++ rest ≡ whole → rest ≡ [] → taken ≡ whole
taken-all taken rest whole h none = sym (append-nil taken) ∙ ap (λ l. taken ++ l) (sym none) ∙ h

-- the shortest lists
module _ {X : Type 0} (before : X → X → Bool) where
  pub best-nil : (n : ℕ) → best before n [] ≡ []
  unfolding best
  best-nil zero = refl
  best-nil (suc n) = refl

  pub best-one : (n : ℕ) (x : X) → best before (suc n) (x ∷ []) ≡ x ∷ []
  unfolding best best_one others
  best-one zero x = refl
  best-one (suc n) x = refl

  pub best-zero : (xs : List X) → best before zero xs ≡ []
  unfolding best
  best-zero xs = refl

-- what holds of each value of a list holds of its best
module _ {X : Type 0} (before : X → X → Bool) (P : X → Type 0) where
  better-holds : (x y : X) → P x → P y → P (better before x y)
  better-holds x y h k = elim (before y x) as (λ b. P (if b then y else x)) [ true ↦ k | false ↦ h ]

  worse-holds : (x y : X) → P x → P y → P (worse before x y)
  worse-holds x y h k = elim (before y x) as (λ b. P (if b then x else y)) [ true ↦ h | false ↦ k ]

  best_one-holds : (x : X) (ys : List X) → P x → All P ys → P (best_one before x ys)
  unfolding best_one
  best_one-holds x [] h all = h
  best_one-holds x (y ∷ ys) h all =
      best_one-holds (better before x y) ys (better-holds x y h (All-head P y ys all)) (All-tail P y ys all)

  All-others : (x : X) (ys : List X) → P x → All P ys → All P (others before x ys)
  unfolding others
  All-others x [] h all = λ k d below. absurd (omega arith)
  All-others x (y ∷ ys) h all =
      let k = All-head P y ys all in
      All-cons P (worse before x y) (others before (better before x y) ys) (worse-holds x y h k)
      (All-others (better before x y) ys (better-holds x y h k) (All-tail P y ys all))

  pub All-best : (n : ℕ) (xs : List X) → All P xs → All P (best before n xs)
  unfolding best
  All-best zero xs all = λ k d below. absurd (omega arith)
  All-best (suc n) [] all = λ k d below. absurd (omega arith)
  All-best (suc n) (x ∷ xs) all =
      let h = All-head P x xs all in
      let rest = All-tail P x xs all in
      All-cons P (best_one before x xs) (best before n (others before x xs)) (best_one-holds x xs h rest)
      (All-best n (others before x xs) (All-others x xs h rest))

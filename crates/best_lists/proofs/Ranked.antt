-- A list in its order, by insertion, of which the best are the first few.
use Rattle.std.proofs.Common.{◌≡◌, ℕ, zero, suc, Bool, true, false, List, [], ◌∷◌, ◌++◌, length, take, if◌then◌else◌, refl, sym, ap, ◌∙◌, append-nil, arith}
use Rattle.std.proofs.lemmas.List.{take-take}
use Rattle.explorer_model.specs.Best.{IsStrictTotalOrder}

module _ {X : Type 0} (before : X → X → Bool) where
  -- x among values in order, past those that are before it
  unfoldable pub put : X → List X → List X
  put x [] = x ∷ []
  put x (y ∷ ys) = if before y x then y ∷ put x ys else x ∷ y ∷ ys

  -- the values in order
  unfoldable pub ranked : List X → List X
  ranked [] = []
  ranked (x ∷ xs) = put x (ranked xs)

  -- ys with each of xs put into it
  unfoldable pub puts : List X → List X → List X
  puts [] ys = ys
  puts (x ∷ xs) ys = put x (puts xs ys)

  -- none of the values is before x
  abbrev pub Behind : X → List X → Type 0
  Behind x [] = Unit {0}
  Behind x (y ∷ ys) = (before y x ≡ false) × Behind x ys

  -- none of the values is before one that stands in front of it
  abbrev pub InOrder : List X → Type 0
  InOrder [] = Unit {0}
  InOrder (x ∷ xs) = Behind x xs × InOrder xs

take-cons-take : {X : Type 0} (n : ℕ) (y : X) (ys : List X) → take n (y ∷ ys) ≡ take n (y ∷ take n ys)
take-cons-take zero y ys = refl
take-cons-take (suc n) y [] = refl
take-cons-take (suc n) y (z ∷ zs) = ap (λ l. y ∷ l) (take-cons-take n z zs)

module _ {X : Type 0} (before : X → X → Bool) where
  pub put-least : (x : X) (ys : List X) → Behind before x ys → put before x ys ≡ x ∷ ys
  unfolding put
  put-least x [] h = refl
  put-least x (y ∷ ys) h = rw h.0

  -- the first n after a put need the first n before it alone
  pub take-put : (n : ℕ) (x : X) (ys : List X) → take n (put before x ys) ≡ take n (put before x (take n ys))
  unfolding put
  take-put zero x ys = refl
  take-put (suc n) x [] = refl
  take-put (suc n) x (y ∷ ys) =
      elim (before y x) as (λ b. take (suc n) (if b then y ∷ put before x ys else x ∷ y ∷ ys)
      ≡ take (suc n) (if b then y ∷ put before x (take n ys) else x ∷ y ∷ take n ys)) [
        | true ↦ ap (λ l. y ∷ l) (take-put n x ys)
        | false ↦ ap (λ l. x ∷ l) (take-cons-take n y ys)
      ]

  pub take-puts : (n : ℕ) (xs ys : List X) → take n (puts before xs ys) ≡ take n (puts before xs (take n ys))
  unfolding puts
  take-puts n [] ys = sym (take-take n n ys (omega arith))
  take-puts n (x ∷ xs) ys =
      take-put n x (puts before xs ys) ∙ ap (λ l. take n (put before x l)) (take-puts n xs ys)
      ∙ sym (take-put n x (puts before xs (take n ys)))

  pub ranked-append : (xs ys : List X) → ranked before (xs ++ ys) ≡ puts before xs (ranked before ys)
  unfolding ranked puts
  ranked-append [] ys = refl
  ranked-append (x ∷ xs) ys = ap (put before x) (ranked-append xs ys)

  length-put : (x : X) (ys : List X) → length (put before x ys) ≡ suc (length ys)
  unfolding put
  length-put x [] = refl
  length-put x (y ∷ ys) =
      elim (before y x) as (λ b. length (if b then y ∷ put before x ys else x ∷ y ∷ ys) ≡ suc (suc (length ys))) [
        | true ↦ ap suc (length-put x ys)
        | false ↦ refl
      ]

  pub length-ranked : (xs : List X) → length (ranked before xs) ≡ length xs
  unfolding ranked
  length-ranked [] = refl
  length-ranked (x ∷ xs) = length-put x (ranked before xs) ∙ ap suc (length-ranked xs)

  Behind-put : (x y : X) (ys : List X) → before y x ≡ false → Behind before x ys → Behind before x (put before y ys)
  unfolding put
  Behind-put x y [] h k = (h, tt)
  Behind-put x y (z ∷ zs) h k =
      elim (before z y) as (λ b. Behind before x (if b then z ∷ put before y zs else y ∷ z ∷ zs)) [
        | true ↦ (k.0, Behind-put x y zs h k.1)
        | false ↦ (h, k)
      ]

  Behind-ranked : (x : X) (ys : List X) → Behind before x ys → Behind before x (ranked before ys)
  unfolding ranked
  Behind-ranked x [] h = tt
  Behind-ranked x (y ∷ ys) h = Behind-put x y (ranked before ys) h.0 (Behind-ranked x ys h.1)

  Behind-append : (x : X) (ys zs : List X) → Behind before x ys → Behind before x zs → Behind before x (ys ++ zs)
  Behind-append x [] zs h k = k
  Behind-append x (y ∷ ys) zs h k = (h.0, Behind-append x ys zs h.1 k)

  Behind-take : (n : ℕ) (x : X) (ys : List X) → Behind before x ys → Behind before x (take n ys)
  Behind-take zero x ys h = tt
  Behind-take (suc n) x [] h = tt
  Behind-take (suc n) x (y ∷ ys) h = (h.0, Behind-take n x ys h.1)

  pub InOrder-take : (n : ℕ) (xs : List X) → InOrder before xs → InOrder before (take n xs)
  InOrder-take zero xs h = tt
  InOrder-take (suc n) [] h = tt
  InOrder-take (suc n) (x ∷ xs) h = (Behind-take n x xs h.0, InOrder-take n xs h.1)

  -- a list in order is its own order
  pub ranked-InOrder : (xs : List X) → InOrder before xs → ranked before xs ≡ xs
  unfolding ranked
  ranked-InOrder [] h = refl
  ranked-InOrder (x ∷ xs) h = ap (put before x) (ranked-InOrder xs h.1) ∙ put-least x xs h.0

module _ {X : Type 0} {before : X → X → Bool} (order : IsStrictTotalOrder before) where
  pub before-asym : (x y : X) → before x y ≡ true → before y x ≡ false
  before-asym x y h = grind (arith, order.irreflexive, order.transitive)

  -- what isn't before y isn't before x, where y isn't before x
  pub not_before-trans : (x y z : X) → before y x ≡ false → before z y ≡ false → before z x ≡ false
  not_before-trans x y z h k = grind (arith, order.irreflexive, order.transitive, order.total)

  pub put-comm : (x y : X) (l : List X) → put before x (put before y l) ≡ put before y (put before x l)
  unfolding put
  put-comm x y [] = grind (arith, order.irreflexive, order.transitive, order.total)
  put-comm x y (z ∷ zs) = let ih = put-comm x y zs in grind (arith, order.irreflexive, order.transitive, order.total)

  put-puts : (x : X) (ys l : List X) → put before x (puts before ys l) ≡ puts before ys (put before x l)
  unfolding puts
  put-puts x [] l = refl
  put-puts x (y ∷ ys) l = put-comm x y (puts before ys l) ∙ ap (put before y) (put-puts x ys l)

  -- the order of a list doesn't depend on how it stood
  pub ranked-comm : (xs ys : List X) → ranked before (xs ++ ys) ≡ ranked before (ys ++ xs)
  unfolding ranked puts
  ranked-comm [] ys = ap (ranked before) (sym (append-nil ys))
  ranked-comm (x ∷ xs) ys =
      ap (put before x) (ranked-comm xs ys ∙ ranked-append before ys xs) ∙ put-puts x ys (ranked before xs)
      ∙ sym (ranked-append before ys (x ∷ xs))

  Behind-trans : (x y : X) (ys : List X) → before y x ≡ false → Behind before y ys → Behind before x ys
  Behind-trans x y [] h k = tt
  Behind-trans x y (z ∷ zs) h k = (not_before-trans x y z h k.0, Behind-trans x y zs h k.1)

  InOrder-put : (x : X) (ys : List X) → InOrder before ys → InOrder before (put before x ys)
  unfolding put
  InOrder-put x [] h = (tt, tt)
  InOrder-put x (y ∷ ys) h =
      elim (before y x) as (λ b. before y x ≡ b → InOrder before (if b then y ∷ put before x ys else x ∷ y ∷ ys)) [
        | true ↦ λ e. (Behind-put before y x ys (before-asym y x e) h.0, InOrder-put x ys h.1)
        | false ↦ λ e. ((e, Behind-trans x y ys e h.0), h)
      ] refl

  pub InOrder-ranked : (xs : List X) → InOrder before (ranked before xs)
  unfolding ranked
  InOrder-ranked [] = tt
  InOrder-ranked (x ∷ xs) = InOrder-put x (ranked before xs) (InOrder-ranked xs)

  -- the first n of two lists in order need the first n of the second in order alone
  top-right : (n : ℕ) (xs ys : List X)
      → take n (ranked before (xs ++ ys)) ≡ take n (ranked before (xs ++ take n (ranked before ys)))
  top-right n xs ys =
      let first = take n (ranked before ys) in
      let fixed = ranked-InOrder before first (InOrder-take before n _ (InOrder-ranked ys)) in
      ap (take n) (ranked-append before xs ys) ∙ take-puts before n xs (ranked before ys)
      ∙ ap (λ l. take n (puts before xs l)) (sym fixed) ∙ ap (take n) (sym (ranked-append before xs first))

  -- the first n of both need the first n of each alone
  pub top-both : (n : ℕ) (xs ys : List X)
      → take n (ranked before (xs ++ ys)) ≡ take n (ranked before (take n (ranked before xs) ++ take n (ranked before ys)))
  top-both n xs ys =
      let first = take n (ranked before ys) in
      top-right n xs ys ∙ ap (take n) (ranked-comm xs first) ∙ top-right n first xs
      ∙ ap (take n) (ranked-comm first (take n (ranked before xs)))

  -- what stands before everything else in both comes first
  pub ranked-first_left : (x : X) (xs ys : List X) → InOrder before (x ∷ xs) → Behind before x ys
      → ranked before (x ∷ xs ++ ys) ≡ x ∷ ranked before (xs ++ ys)
  unfolding ranked
  ranked-first_left x xs ys h k =
      put-least before x _ (Behind-ranked before x (xs ++ ys) (Behind-append before x xs ys h.0 k))

  pub ranked-first_right : (xs : List X) (y : X) (ys : List X) → InOrder before (y ∷ ys) → Behind before y xs
      → ranked before (xs ++ y ∷ ys) ≡ y ∷ ranked before (xs ++ ys)
  ranked-first_right xs y ys h k =
      ranked-comm xs (y ∷ ys) ∙ ranked-first_left y ys xs h k ∙ ap (λ l. y ∷ l) (ranked-comm ys xs)

  -- behind the first of a list in order is all of it
  pub Behind-InOrder : (x y : X) (ys : List X) → InOrder before (y ∷ ys) → before y x ≡ false → Behind before x (y ∷ ys)
  Behind-InOrder x y ys h e = (e, Behind-trans x y ys e h.0)

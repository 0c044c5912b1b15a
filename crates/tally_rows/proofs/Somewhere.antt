-- Whether some value of a list passes, each value of a list once, and numbers of those that pass.
use Rattle.std.proofs.Common.{◌≡◌, ℕ, ◌+◌, ◌<◌, Bool, true, false, not, ◌&&◌, ◌||◌, ◌==◌, nat_lt, cond, List, [], ◌∷◌, map, refl, sym, ap, subst, ◌∙◌, arith}
use Rattle.std.specs.List.{AllByRecursion, sum_by, count_by, filter, list_any}
use Rattle.std.proofs.lemmas.Bool.Decides.{nat_tests}
use Rattle.std.proofs.lemmas.List.Sums.{sum_by-cons}
use Rattle.explorer_model.specs.Counting.{distinct}
use Rattle.tally_rows.proofs.Sums.{sum_by-filter, sum_by-zero}

-- a number that counts something or not, before others
more : (b : Bool) (n k : ℕ) → 0 < n → nat_lt 0 (cond b n 0 + k) ≡ (b || nat_lt 0 k)
more true n k h = grind (arith, nat_tests)
more false n k h = grind (arith, nat_tests)

module _ {X : Type 0} (p : X → Bool) where
  pub any-count : (xs : List X) → list_any p xs ≡ nat_lt 0 (count_by p xs)
  any-count [] = refl
  any-count (x ∷ xs) =
      ap (λ b. p x || b) (any-count xs) ∙ sym (more (p x) 1 (count_by p xs) (omega arith))
      ∙ ap (nat_lt 0) (sym (sum_by-cons (λ y. cond (p y) 1 0) x xs))

  -- the same by numbers that are not 0
  pub any-sum : (f : X → ℕ) (xs : List X) → AllByRecursion (λ x. 0 < f x) xs → list_any p xs ≡ nat_lt 0 (sum_by (λ x. cond (p x) (f x) 0) xs)
  any-sum f [] h = refl
  any-sum f (x ∷ xs) h =
      ap (λ b. p x || b) (any-sum f xs h.1) ∙ sym (more (p x) (f x) (sum_by (λ y. cond (p y) (f y) 0) xs) h.0)
      ∙ ap (nat_lt 0) (sym (sum_by-cons (λ y. cond (p y) (f y) 0) x xs))

pub any-map : {X Y : Type 0} (p : Y → Bool) (f : X → Y) (xs : List X) → list_any p (map f xs) ≡ list_any (λ x. p (f x)) xs
any-map p f [] = refl
any-map p f (x ∷ xs) = ap (λ b. p (f x) || b) (any-map p f xs)

pub any-filter : {X : Type 0} (p q : X → Bool) (xs : List X) → list_any p (filter q xs) ≡ list_any (λ x. q x && p x) xs
any-filter p q [] = refl
any-filter p q (x ∷ xs) =
    elim (q x) as (λ b. list_any p (cond b (x ∷ filter q xs) (filter q xs)) ≡ ((b && p x) || list_any (λ y. q y && p y) xs)) [
      | true ↦ ap (λ b. p x || b) (any-filter p q xs)
      | false ↦ any-filter p q xs
    ]

-- ---- each value once

module _ {X : Type 0} (same : X → X → Bool) (is : (x y : X) → same x y ≡ true → x ≡ y) (self : (x : X) → same x x ≡ true) where
  same-comm : (x y : X) → same x y ≡ false → same y x ≡ false
  same-comm x y e = by (same y x) refl
    where
      by : (b : Bool) → same y x ≡ b → b ≡ false
      by true d =
          let back : same x y ≡ true = subst (λ z. same z y ≡ true) (is y x d) (self y) in
          cc
      by false d = refl

  left_out : (y : X) (zs : List X) → count_by (same y) (filter (λ z. not (same y z)) zs) ≡ 0
  left_out y zs =
      sum_by-filter (λ z. cond (same y z) 1 0) (λ z. not (same y z)) zs
      ∙ ap (λ f. sum_by f zs) (λ i z. neither (same y z) i) ∙ sum_by-zero zs
    where
      neither : (b : Bool) → cond (not b) (cond {A = ℕ} b 1 0) 0 ≡ 0
      neither true = refl
      neither false = refl

  others_stay : (x y : X) (zs : List X) → same x y ≡ false → count_by (same x) (filter (λ z. not (same y z)) zs) ≡ count_by (same x) zs
  others_stay x y zs e =
      sum_by-filter (λ z. cond (same x z) 1 0) (λ z. not (same y z)) zs
      ∙ ap (λ f. sum_by f zs) (λ i z. here z (same x z) refl i)
    where
      here : (z : X) (b : Bool) → same x z ≡ b → cond (not (same y z)) (cond {A = ℕ} (same x z) 1 0) 0 ≡ cond (same x z) 1 0
      here z true d =
          let apart : same y z ≡ false = subst (λ w. same y w ≡ false) (is x z d) (same-comm x y e) in
          ap (λ b. cond (not b) (cond {A = ℕ} (same x z) 1 0) 0) apart
      here z false d =
          ap (λ b. cond (not (same y z)) (cond {A = ℕ} b 1 0) 0) d ∙ nothing (not (same y z)) ∙ sym (ap (λ b. cond {A = ℕ} b 1 0) d)
        where
          nothing : (c : Bool) → cond {A = ℕ} c 0 0 ≡ 0
          nothing true = refl
          nothing false = refl

  -- a value that is there is there once
  pub count-distinct : (x : X) (xs : List X) → count_by (same x) (distinct same xs) ≡ cond (list_any (same x) xs) 1 0
  count-distinct x [] = refl
  count-distinct x (y ∷ ys) = by (same x y) refl (count-distinct x ys)
    where
      by : (b : Bool) → same x y ≡ b → count_by (same x) (distinct same ys) ≡ cond (list_any (same x) ys) 1 0
          → count_by (same x) (distinct same (y ∷ ys)) ≡ cond (b || list_any (same x) ys) 1 0
      by true e later =
          let none : count_by (same x) (filter (λ z. not (same y z)) (distinct same ys)) ≡ 0 =
          ap (λ w. count_by (same w) (filter (λ z. not (same y z)) (distinct same ys))) (is x y e) ∙ left_out y (distinct same ys) in
          let one : cond {A = ℕ} (same x y) 1 0 ≡ 1 = ap (λ b. cond b 1 0) e in
          sum_by-cons (λ z. cond (same x z) 1 0) y (filter (λ z. not (same y z)) (distinct same ys)) ∙ omega arith
      by false e later =
          let none : cond {A = ℕ} (same x y) 1 0 ≡ 0 = ap (λ b. cond b 1 0) e in
          sum_by-cons (λ z. cond (same x z) 1 0) y (filter (λ z. not (same y z)) (distinct same ys))
          ∙ omega (arith, none, others_stay x y (distinct same ys) e, later)

map-filter : {X Y : Type 0} (p : Y → Bool) (f : X → Y) (xs : List X) → map f (filter (λ x. p (f x)) xs) ≡ filter p (map f xs)
map-filter p f [] = refl
map-filter p f (x ∷ xs) =
    elim (p (f x)) as (λ b. map f (cond b (x ∷ filter (λ y. p (f y)) xs) (filter (λ y. p (f y)) xs)) ≡ cond b (f x ∷ filter p (map f xs)) (filter p (map f xs))) [
      | true ↦ ap (λ l. f x ∷ l) (map-filter p f xs)
      | false ↦ map-filter p f xs
    ]

-- each value once, by a number that tells values apart
pub map-distinct : {X : Type 0} (f : X → ℕ) (xs : List X) → map f (distinct (λ x y. f x == f y) xs) ≡ distinct (λ m n. m == n) (map f xs)
map-distinct f [] = refl
map-distinct f (x ∷ xs) =
    ap (λ l. f x ∷ l) (map-filter (λ n. not (f x == n)) f (distinct (λ y z. f y == f z) xs) ∙ ap (filter (λ n. not (f x == n))) (map-distinct f xs))

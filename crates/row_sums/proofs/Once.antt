-- Values, each once, with one value more.
use Rattle.std.proofs.Common.{◌≡◌, Bool, true, false, not, ◌||◌, cond, List, [], ◌∷◌, ◌++◌, filter, refl, sym, ap, ◌∙◌, append-nil}
use Rattle.std.specs.List.{list_any, AllByRecursion, IsDistinct}
use Rattle.std.proofs.lemmas.List.Elements.{filter-append}
use Rattle.explorer_model.specs.Counting.{distinct}

module _ {X : Type 0} (same : X → X → Bool) (transitive : (x y z : X) → same x y ≡ true → same y z ≡ true → same x z ≡ true) where
  either : (a b : Bool) → (a || b) ≡ true → b ≡ false → a ≡ true
  either true b h k = refl
  either false b h k = cc

  neither-left : (a b : Bool) → (a || b) ≡ false → a ≡ false
  neither-left true b h = h
  neither-left false b h = refl

  neither-right : (a b : Bool) → (a || b) ≡ false → b ≡ false
  neither-right true b h = cc
  neither-right false b h = h

  -- none of fewer
  none-filter : (p q : X → Bool) (xs : List X) → list_any p xs ≡ false → list_any p (filter q xs) ≡ false
  none-filter p q [] none = refl
  none-filter p q (x ∷ xs) none =
      let rest = none-filter p q xs (neither-right (p x) (list_any p xs) none) in
      elim (q x) as (λ b. list_any p (cond b (x ∷ filter q xs) (filter q xs)) ≡ false) [
        | true ↦ (ap (λ b. b || list_any p (filter q xs)) (neither-left (p x) (list_any p xs) none) ∙ rest)
        | false ↦ rest
      ]

  -- what is the same as y is not passed over with x, where y is another
  kept-by : (x y z : X) (zs : List X) (b c : Bool) → same z y ≡ b → same x z ≡ c → same x y ≡ false
      → (list_any (λ m. same m y) zs ≡ true → list_any (λ m. same m y) (filter (λ m. not (same x m)) zs) ≡ true)
      → (b || list_any (λ m. same m y) zs) ≡ true
      → list_any (λ m. same m y) (cond (not c) (z ∷ filter (λ m. not (same x m)) zs) (filter (λ m. not (same x m)) zs)) ≡ true
  kept-by x y z zs true true is_y is_x other rest some = (let joined = transitive x z y is_x is_y in cc)
  kept-by x y z zs true false is_y is_x other rest some = ap (λ b. b || list_any (λ m. same m y) (filter (λ m. not (same x m)) zs)) is_y
  kept-by x y z zs false true is_y is_x other rest some = rest some
  kept-by x y z zs false false is_y is_x other rest some =
      ap (λ b. b || list_any (λ m. same m y) (filter (λ m. not (same x m)) zs)) is_y ∙ rest some

  any-kept : (x y : X) (zs : List X) → same x y ≡ false → list_any (λ m. same m y) zs ≡ true
      → list_any (λ m. same m y) (filter (λ m. not (same x m)) zs) ≡ true
  any-kept x y [] other some = some
  any-kept x y (z ∷ zs) other some =
      kept-by x y z zs (same z y) (same x z) refl refl other (any-kept x y zs other) some

  filter-one : (x y : X) (b : Bool) → same x y ≡ b → filter (λ m. not (same x m)) (y ∷ []) ≡ cond b [] (y ∷ [])
  filter-one x y true is = ap (λ b. cond (not b) (y ∷ []) []) is
  filter-one x y false is = ap (λ b. cond (not b) (y ∷ []) []) is

  more-by : (x y : X) (zs now : List X) (b c : Bool) → now ≡ cond c zs (zs ++ y ∷ []) → list_any (λ m. same m y) zs ≡ c
      → (same x y || list_any (λ m. same m y) (filter (λ m. not (same x m)) zs)) ≡ b
      → x ∷ filter (λ m. not (same x m)) now ≡ cond b (x ∷ filter (λ m. not (same x m)) zs) (x ∷ filter (λ m. not (same x m)) zs ++ y ∷ [])
  more-by x y zs now true true is some known = ap (λ l. x ∷ filter (λ m. not (same x m)) l) is
  more-by x y zs now false true is some known =
      let p : X → Bool = λ m. same m y in
      let left = filter (λ m. not (same x m)) zs in
      let kept = any-kept x y zs (neither-left (same x y) (list_any p left) known) some in
      let none = neither-right (same x y) (list_any p left) known in
      cc
  more-by x y zs now true false is none known =
      let p : X → Bool = λ m. same m y in
      let q : X → Bool = λ m. not (same x m) in
      let is_same = either (same x y) (list_any p (filter q zs)) known (none-filter p q zs none) in
      ap (λ l. x ∷ filter q l) is ∙ ap (λ l. x ∷ l) (filter-append q zs (y ∷ []) ∙ ap (λ l. filter q zs ++ l) (filter-one x y true is_same) ∙ append-nil (filter q zs))
  more-by x y zs now false false is none known =
      let p : X → Bool = λ m. same m y in
      let q : X → Bool = λ m. not (same x m) in
      let is_other = neither-left (same x y) (list_any p (filter q zs)) known in
      ap (λ l. x ∷ filter q l) is ∙ ap (λ l. x ∷ l) (filter-append q zs (y ∷ []) ∙ ap (λ l. filter q zs ++ l) (filter-one x y false is_other))

  -- what is the same as one of the values is the same as one of them, each once
  first-by : (x y : X) (zs : List X) (b c : Bool) → same x y ≡ b → (b ≡ false → c ≡ true → list_any (λ m. same m y) (filter (λ m. not (same x m)) zs) ≡ true)
      → (b || c) ≡ true → (same x y || list_any (λ m. same m y) (filter (λ m. not (same x m)) zs)) ≡ true
  first-by x y zs true c is later some = ap (λ b. b || list_any (λ m. same m y) (filter (λ m. not (same x m)) zs)) is
  first-by x y zs false c is later some =
      ap (λ b. b || list_any (λ m. same m y) (filter (λ m. not (same x m)) zs)) is ∙ later refl some

  any-once : (xs : List X) (y : X) → list_any (λ m. same m y) xs ≡ true → list_any (λ m. same m y) (distinct same xs) ≡ true
  any-once [] y some = some
  any-once (x ∷ xs) y some =
      first-by x y (distinct same xs) (same x y) (list_any (λ m. same m y) xs) refl
      (λ other later. any-kept x y (distinct same xs) other (any-once xs y later)) some

  none-by : (a b : Bool) → (a ≡ true → b ≡ true) → b ≡ false → a ≡ false
  none-by false b gives none = refl
  none-by true b gives none = sym (gives refl) ∙ none

  pub none-once : (xs : List X) (y : X) → list_any (λ m. same m y) (distinct same xs) ≡ false → list_any (λ m. same m y) xs ≡ false
  none-once xs y none = none-by (list_any (λ m. same m y) xs) (list_any (λ m. same m y) (distinct same xs)) (any-once xs y) none

  apart-one : (x y : X) (zs : List X) (b : Bool) → same x y ≡ b → AllByRecursion (λ z. same x z ≡ false) zs
      → AllByRecursion (λ z. same x z ≡ false) (cond (not b) (y ∷ zs) zs)
  apart-one x y zs true is each = each
  apart-one x y zs false is each = (is, each)

  apart-kept : (x : X) (xs : List X) → AllByRecursion (λ y. same x y ≡ false) (filter (λ y. not (same x y)) xs)
  apart-kept x [] = tt
  apart-kept x (y ∷ ys) = apart-one x y (filter (λ z. not (same x z)) ys) (same x y) refl (apart-kept x ys)

  apart-filter : (p : X → Bool) (x : X) (xs : List X) → AllByRecursion (λ y. same x y ≡ false) xs → AllByRecursion (λ y. same x y ≡ false) (filter p xs)
  apart-filter p x [] each = tt
  apart-filter p x (y ∷ ys) each =
      elim (p y) as (λ b. AllByRecursion (λ z. same x z ≡ false) (cond b (y ∷ filter p ys) (filter p ys))) [
        | true ↦ (each.0, apart-filter p x ys each.1)
        | false ↦ apart-filter p x ys each.1
      ]

  once-filter : (p : X → Bool) (xs : List X) → IsDistinct same xs → IsDistinct same (filter p xs)
  unfolding IsDistinct
  once-filter p [] once = tt
  once-filter p (x ∷ xs) once =
      elim (p x) as (λ b. IsDistinct same (cond b (x ∷ filter p xs) (filter p xs))) [
        | true ↦ (apart-filter p x xs once.0, once-filter p xs once.1)
        | false ↦ once-filter p xs once.1
      ]

  -- they are different
  pub once-distinct : (xs : List X) → IsDistinct same (distinct same xs)
  unfolding IsDistinct
  once-distinct [] = tt
  once-distinct (x ∷ xs) = (apart-kept x (distinct same xs), once-filter (λ y. not (same x y)) (distinct same xs) (once-distinct xs))

  -- with one value more, by whether it is there already
  pub once-more : (xs : List X) (y : X) (b : Bool) → list_any (λ m. same m y) (distinct same xs) ≡ b
      → distinct same (xs ++ y ∷ []) ≡ cond b (distinct same xs) (distinct same xs ++ y ∷ [])
  once-more [] y true is = cc
  once-more [] y false is = refl
  once-more (x ∷ xs) y b is =
      more-by x y (distinct same xs) (distinct same (xs ++ y ∷ [])) b (list_any (λ m. same m y) (distinct same xs))
      (once-more xs y (list_any (λ m. same m y) (distinct same xs)) refl) refl is

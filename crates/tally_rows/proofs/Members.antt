-- The values of a list, by recursion.
use Rattle.std.proofs.Common.{◌≡◌, ℕ, zero, suc, ◌<◌, Bool, true, false, cond, ◌⊎◌, List, [], ◌∷◌, ◌++◌, map, length, get_or, inl, inr, refl, sym, ap, subst, ◌∙◌, arith}
use Rattle.std.specs.List.{All, Any, Contains, AllByRecursion, count_by}
use Rattle.std.proofs.lemmas.List.Elements.{All-nil, All-cons, All-head, All-tail}
use Rattle.std.proofs.lemmas.List.Sums.{sum_by-cons}

abbrev pub IsIn : {X : Type 0} → X → List X → Type 0
IsIn x [] = ⊥
IsIn x (y ∷ ys) = (x ≡ y) ⊎ IsIn x ys

-- some value of the list, of which P holds
pub record Found {X : Type 0} (P : X → Type 0) (xs : List X) : Type 0 where
  pub value : X
  pub is_in : IsIn value xs
  pub holds : P value

module _ {X : Type 0} (P : X → Type 0) where
  pub All-from_IsIn : (xs : List X) → ((x : X) → IsIn x xs → P x) → All P xs
  All-from_IsIn [] h = All-nil P
  All-from_IsIn (x ∷ xs) h = All-cons P x xs (h x (inl refl)) (All-from_IsIn xs (λ y m. h y (inr m)))

  pub All-IsIn : (xs : List X) → All P xs → (x : X) → IsIn x xs → P x
  All-IsIn [] h y m = absurd m
  All-IsIn (x ∷ xs) h y (inl e) = subst P (sym e) (All-head P x xs h)
  All-IsIn (x ∷ xs) h y (inr m) = All-IsIn xs (All-tail P x xs h) y m

  pub recursion-from_IsIn : (xs : List X) → ((x : X) → IsIn x xs → P x) → AllByRecursion P xs
  recursion-from_IsIn [] h = tt
  recursion-from_IsIn (x ∷ xs) h = (h x (inl refl), recursion-from_IsIn xs (λ y m. h y (inr m)))

  pub recursion-IsIn : (xs : List X) → AllByRecursion P xs → (x : X) → IsIn x xs → P x
  recursion-IsIn [] h y m = absurd m
  recursion-IsIn (x ∷ xs) h y (inl e) = subst P (sym e) h.0
  recursion-IsIn (x ∷ xs) h y (inr m) = recursion-IsIn xs h.1 y m

  pub Any-IsIn : (xs : List X) (x : X) → IsIn x xs → P x → Any P xs
  Any-IsIn [] x m p = absurd m
  Any-IsIn (y ∷ ys) x (inl e) p = (0, y, omega arith, refl, subst P e p)
  Any-IsIn (y ∷ ys) x (inr m) p = let rest = Any-IsIn ys x m p in (suc rest.0, rest.1, omega arith, rest.3, rest.4)

  at_place : (xs : List X) (k : ℕ) (x : X) → k < length xs → get_or xs k x ≡ x → IsIn x xs
  at_place [] k x below e = absurd (omega arith)
  at_place (y ∷ ys) zero x below e = inl (sym e)
  at_place (y ∷ ys) (suc k) x below e = inr (at_place ys k x (omega arith) e)

  pub Found-from_Any : (xs : List X) → Any P xs → Found P xs
  Found-from_Any xs h = record { value = h.1; is_in = at_place xs h.0 h.1 h.2 h.3; holds = h.4 }

pub IsIn-from_Contains : {X : Type 0} (xs : List X) (x : X) → Contains xs x → IsIn x xs
IsIn-from_Contains {X} xs x h = at_place (λ y. ⊥) xs h.0 x h.1 h.2

pub Contains-IsIn : {X : Type 0} (xs : List X) (x : X) → IsIn x xs → Contains xs x
Contains-IsIn [] x m = absurd m
Contains-IsIn (y ∷ ys) x (inl e) = (0, omega arith, sym e)
Contains-IsIn (y ∷ ys) x (inr m) = let rest = Contains-IsIn ys x m in (suc rest.0, omega arith, rest.2)

module _ {X Y : Type 0} (f : X → Y) where
  pub IsIn-map : (xs : List X) (x : X) → IsIn x xs → IsIn (f x) (map f xs)
  IsIn-map [] x m = m
  IsIn-map (y ∷ ys) x (inl e) = inl (ap f e)
  IsIn-map (y ∷ ys) x (inr m) = inr (IsIn-map ys x m)

  pub Found-map : (xs : List X) (y : Y) → IsIn y (map f xs) → Found (λ x. f x ≡ y) xs
  Found-map [] y m = absurd m
  Found-map (x ∷ xs) y (inl e) = record { value = x; is_in = inl refl; holds = sym e }
  Found-map (x ∷ xs) y (inr m) = let rest = Found-map xs y m in record { value = rest.value; is_in = inr rest.is_in; holds = rest.holds }

module _ {X : Type 0} (p : X → Bool) where
  pub count-positive : (xs : List X) (x : X) → IsIn x xs → p x ≡ true → 0 < count_by p xs
  count-positive [] x m e = absurd m
  count-positive (y ∷ ys) x (inl d) e =
      let here : cond {A = ℕ} (p y) 1 0 ≡ 1 = ap (λ b. cond b 1 0) (ap p (sym d) ∙ e) in
      omega (arith, sum_by-cons (λ z. cond (p z) 1 0) y ys)
  count-positive (y ∷ ys) x (inr m) e = omega (arith, sum_by-cons (λ z. cond (p z) 1 0) y ys, count-positive ys x m e)

  pub Found-from_count : (xs : List X) → 0 < count_by p xs → Found (λ x. p x ≡ true) xs
  Found-from_count [] h = absurd (omega arith)
  Found-from_count (x ∷ xs) h =
      elim (p x) as (λ b. p x ≡ b → Found (λ y. p y ≡ true) (x ∷ xs)) [
        | true ↦ λ e. record { value = x; is_in = inl refl; holds = e }
        | false ↦ λ e.
            let here : cond {A = ℕ} (p x) 1 0 ≡ 0 = ap (λ b. cond b 1 0) e in
            let rest = Found-from_count xs (omega (arith, sum_by-cons (λ z. cond (p z) 1 0) x xs)) in
            record { value = rest.value; is_in = inr rest.is_in; holds = rest.holds }
      ] refl

pub IsIn-append_left : {X : Type 0} (xs ys : List X) (x : X) → IsIn x xs → IsIn x (xs ++ ys)
IsIn-append_left [] ys x m = absurd m
IsIn-append_left (y ∷ xs) ys x (inl e) = inl e
IsIn-append_left (y ∷ xs) ys x (inr m) = inr (IsIn-append_left xs ys x m)

pub IsIn-append_right : {X : Type 0} (xs ys : List X) (x : X) → IsIn x ys → IsIn x (xs ++ ys)
IsIn-append_right [] ys x m = m
IsIn-append_right (y ∷ xs) ys x m = inr (IsIn-append_right xs ys x m)

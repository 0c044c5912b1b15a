-- Lists: what holds of each item, and lists that stand in a relation item by item.
use Rattle.std.proofs.Common.{◌≡◌, Bool, true, false, if◌then◌else◌, List, [], ◌∷◌, ◌++◌, filter, refl}
use Rattle.std.specs.List.{AllByRecursion, AllZip}

-- what holds of each item of a list holds of each that is kept of it
pub filter-have : {X : Type 0} (P : X → Type 0) (test : X → Bool) (xs : List X) → AllByRecursion P xs → AllByRecursion P (filter test xs)
filter-have P test [] each = tt
filter-have P test (x ∷ xs) each = by (filter-have P test xs each.1) (test x)
  where
    by : AllByRecursion P (filter test xs) → (b : Bool) → AllByRecursion P (if b then x ∷ filter test xs else filter test xs)
    by rest true = (each.0, rest)
    by rest false = rest

-- two pairs of lists, one behind the other
pub zip-append : {A B : Type 0} (R : A → B → Type 0) (xs vs : List A) (ys ws : List B) → AllZip R xs ys → AllZip R vs ws
    → AllZip R (xs ++ vs) (ys ++ ws)
zip-append R [] vs [] ws each more = more
zip-append R [] vs (y ∷ ys) ws each more = absurd each
zip-append R (x ∷ xs) vs [] ws each more = absurd each
zip-append R (x ∷ xs) vs (y ∷ ys) ws each more = (each.0, zip-append R xs vs ys ws each.1 more)

-- two lists that stand each in one relation to a third are equal, where each item has one partner
pub one-zip : {A B : Type 0} (R : A → B → Type 0) → ((x : A) (y z : B) → R x y → R x z → y ≡ z)
    → (xs : List A) (ys zs : List B) → AllZip R xs ys → AllZip R xs zs → ys ≡ zs
one-zip R one [] [] [] first second = refl
one-zip R one [] [] (z ∷ zs) first second = absurd second
one-zip R one [] (y ∷ ys) zs first second = absurd first
one-zip R one (x ∷ xs) [] zs first second = absurd first
one-zip R one (x ∷ xs) (y ∷ ys) [] first second = absurd second
one-zip R one (x ∷ xs) (y ∷ ys) (z ∷ zs) first second =
    let head = one x y z first.0 second.0 in
    let tail = one-zip R one xs ys zs first.1 second.1 in
    λ i. head i ∷ tail i

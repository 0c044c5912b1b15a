-- What is left of a list.
use Rattle.std.proofs.Common.{◌≡◌, suc, arith, List, ◌∷◌, subst}
use Rattle.std.specs.List.{All}

-- what holds of all items that are left holds of those behind the first
pub short-rest : {A : Type 0} (P : A → Type 0) (left more : List A) (x : A) → left ≡ x ∷ more → All P left → All P more
short-rest {A} P left more x first each =
    let L : List A → Type 0 = λ xs. All P xs in
    λ k d below. subst L first each (suc k) d (omega (arith, below))

-- and of the first
pub first-left : {A : Type 0} (P : A → Type 0) (left more : List A) (x : A) → left ≡ x ∷ more → All P left → P x
first-left {A} P left more x first each =
    let L : List A → Type 0 = λ xs. All P xs in
    subst L first each 0 x (omega arith)

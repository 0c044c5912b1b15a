-- Lines that are made one after another.
use Rattle.std.proofs.Common.{◌≡◌, ℕ, zero, suc, ◌+◌, ◌<◌, List, [], ◌∷◌, ◌++◌, take, length, get_or, sym, subst, arith}
use Rattle.std.specs.List.{AllByRecursion, AllZip}

-- what holds of each item holds of the one at a place
pub each-at : {A : Type 0} (P : A → Type 0) (xs : List A) (i : ℕ) (x : A) → AllByRecursion P xs → i < length xs → x ≡ get_or xs i x → P x
each-at P [] i x each within is = absurd (omega arith)
each-at P (y ∷ xs) zero x each within is = subst P (sym is) each.0
each-at P (y ∷ xs) (suc i) x each within is = each-at P xs i x each.1 (omega arith) is

-- one item more
zip-suc : {A B : Type 0} (R : A → B → Type 0) (xs : List A) (ys : List B) (i : ℕ) (x : A) (y : B)
    → AllZip R (take i xs) ys → i < length xs → x ≡ get_or xs i x → R x y → AllZip R (take (suc i) xs) (ys ++ y ∷ [])
zip-suc R [] ys i x y zip within is holds = absurd (omega arith)
zip-suc {A} {B} R (a ∷ xs) [] zero x y zip within is holds = let Q : A → Type 0 = λ a. R a y in (subst Q is holds, tt)
zip-suc R (a ∷ xs) (b ∷ ys) zero x y zip within is holds = absurd zip
zip-suc R (a ∷ xs) [] (suc i) x y zip within is holds = absurd zip
zip-suc R (a ∷ xs) (b ∷ ys) (suc i) x y zip within is holds = (zip.0, zip-suc R xs ys i x y zip.1 (omega arith) is holds)

pub zip-next : {A B : Type 0} (R : A → B → Type 0) (xs : List A) (ys : List B) (i : ℕ) (x : A) (y : B)
    → AllZip R (take i xs) ys → i < length xs → x ≡ get_or xs i x → R x y → AllZip R (take (i + 1) xs) (ys ++ y ∷ [])
zip-next R xs ys i x y zip within is holds =
    let one : suc i ≡ i + 1 = omega arith in
    let Z : ℕ → Type 0 = λ n. AllZip R (take n xs) (ys ++ y ∷ []) in
    subst Z one (zip-suc R xs ys i x y zip within is holds)

-- Fronts of lists.
use Rattle.std.proofs.Common.{◌≡◌, ℕ, zero, suc, ◌+◌, ◌≤◌, List, [], ◌∷◌, ◌++◌, Some, length, take, ap, length-append, arith}
use Rattle.std.proofs.lemmas.List.{take-append-le}
use Rattle.std.specs.List.{slice_get}
use Rattle.plain_laws.specs.Lists.{get-append}
use Rattle.explorer_model.specs.Timeline.{IsPrefix}

pub prefix-length : {A : Type 0} (xs ys : List A) → IsPrefix xs ys → length xs ≤ length ys
prefix-length xs ys p = omega (arith, length-append xs p.rest, ap length p.is)

-- a front of a front is a front
pub take-prefix : {A : Type 0} (n : ℕ) (xs ys : List A) → n ≤ length xs → IsPrefix xs ys
    → take n ys ≡ take n xs
take-prefix n xs ys few p = rw p.is (take-append-le n xs p.rest few)

pub get-prefix : {A : Type 0} (xs ys : List A) (i : ℕ) (x : A) → IsPrefix xs ys
    → slice_get xs i ≡ Some x → slice_get ys i ≡ Some x
get-prefix xs ys i x p h = rw p.is (get-append xs p.rest i x h)

-- a front of two lists that has the first of them whole
pub take-behind : {A : Type 0} (xs ys : List A) (n k : ℕ) → n ≡ length xs + k → take n (xs ++ ys) ≡ xs ++ take k ys
take-behind [] ys n k e = let same : n ≡ k = omega (arith, e) in ap (λ m. take m ys) same
take-behind (x ∷ xs) ys zero k e = absurd (omega arith)
take-behind (x ∷ xs) ys (suc n) k e = ap (λ t. x ∷ t) (take-behind xs ys n k (omega arith))

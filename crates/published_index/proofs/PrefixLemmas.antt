-- Beginnings of one list.
use Rattle.std.proofs.Common.{◌≡◌, ◌↔◌, ℕ, ◌≤◌, Bool, IsTrue, true≢false, true, false, List, [], ◌∷◌, ◌++◌, length, refl, sym, ap, arith, length-append}
use Rattle.std.proofs.lemmas.Bool.Decides.{nat_tests}
use Rattle.std.proofs.Common.{leb, nat_eq}
use mathlib.Core.List.{IsPrefix as Begins}
use Rattle.explorer_model.specs.Timeline.{IsPrefix}

pub prefix-append : {A : Type 0} (xs more : List A) → IsPrefix xs (xs ++ more)
prefix-append xs more = record { rest = more; is = refl }

-- a list that begins another one is a prefix of it
pub prefix-begins : {A : Type 0} (xs ys : List A) → Begins xs ys → IsPrefix xs ys
prefix-begins xs ys h = record { rest = h.0; is = sym h.1 }

pub prefix-length : {A : Type 0} (xs ys : List A) → IsPrefix xs ys → length xs ≤ length ys
prefix-length xs ys h = omega (arith, ap length h.is, length-append xs h.rest)

pub begins-length : {A : Type 0} (xs ys : List A) → Begins xs ys → length xs ≤ length ys
begins-length xs ys h = prefix-length xs ys (prefix-begins xs ys h)

-- of two beginnings of one list the shorter begins the longer
pub prefix-shorter : {A : Type 0} (xs ys zs : List A) → Begins xs zs → Begins ys zs → length xs ≤ length ys → IsPrefix xs ys
prefix-shorter [] ys zs p q le = record { rest = ys; is = refl }
prefix-shorter (x ∷ xs) [] zs p q le = absurd (omega arith)
prefix-shorter (x ∷ xs) (y ∷ ys) [] p q le = absurd (cc (p.1))
prefix-shorter (x ∷ xs) (y ∷ ys) (z ∷ zs) p q le =
    let heads : x ≡ y = cc (p.1, q.1) in
    let rest = prefix-shorter xs ys zs (p.0, cc (p.1)) (q.0, cc (q.1)) (omega arith) in
    record { rest = rest.rest; is = cc (heads, rest.is) }

-- a beginning as long as the whole is the whole
pub begins-whole : {A : Type 0} (xs ys : List A) → Begins xs ys → length ys ≤ length xs → xs ≡ ys
begins-whole [] [] p le = refl
begins-whole [] (y ∷ ys) p le = absurd (omega arith)
begins-whole (x ∷ xs) [] p le = absurd (cc (p.1))
begins-whole (x ∷ xs) (y ∷ ys) p le =
    let rest = begins-whole xs ys (p.0, cc (p.1)) (omega arith) in cc (p.1, rest)

-- of two beginnings of one list one begins the other exactly where its count is no more
pub where-shorter : {A : Type 0} (m n : ℕ) (xs ys zs : List A) → Begins xs zs → Begins ys zs → m ≡ length xs → n ≡ length ys
    → IsTrue (leb m n) ↔ IsPrefix xs ys
where-shorter m n xs ys zs p q m-is n-is = (begins (leb m n) refl, is_no_more (leb m n) refl)
  where
    begins : (test : Bool) → leb m n ≡ test → IsTrue test → IsPrefix xs ys
    begins true is h = prefix-shorter xs ys zs p q (grind (arith, nat_tests))
    begins false is h = absurd (true≢false (sym h))

    is_no_more : (test : Bool) → leb m n ≡ test → IsPrefix xs ys → IsTrue test
    is_no_more true is h = refl
    is_no_more false is h = absurd (grind (arith, nat_tests, prefix-length xs ys h))

-- two beginnings of one list that are as long are the same
pub same-length : {A : Type 0} (xs ys zs : List A) → Begins xs zs → Begins ys zs → length xs ≡ length ys → ys ≡ xs
same-length [] [] zs p q e = refl
same-length [] (y ∷ ys) zs p q e = absurd (omega arith)
same-length (x ∷ xs) [] zs p q e = absurd (omega arith)
same-length (x ∷ xs) (y ∷ ys) [] p q e = absurd (cc (p.1))
same-length (x ∷ xs) (y ∷ ys) (z ∷ zs) p q e =
    let heads : x ≡ y = cc (p.1, q.1) in
    let rest : ys ≡ xs = same-length xs ys zs (p.0, cc (p.1)) (q.0, cc (q.1)) (omega arith) in
    cc (heads, rest)

-- of two beginnings of one list the counts are equal exactly where they are the same
pub where-same : {A : Type 0} (m n : ℕ) (xs ys zs : List A) → Begins xs zs → Begins ys zs → m ≡ length xs → n ≡ length ys
    → IsTrue (nat_eq m n) ↔ (ys ≡ xs)
where-same m n xs ys zs p q m-is n-is = (same (nat_eq m n) refl, is_one (nat_eq m n) refl)
  where
    same : (test : Bool) → nat_eq m n ≡ test → IsTrue test → ys ≡ xs
    same true is h = same-length xs ys zs p q (grind (arith, nat_tests))
    same false is h = absurd (true≢false (sym h))

    is_one : (test : Bool) → nat_eq m n ≡ test → ys ≡ xs → IsTrue test
    is_one true is h = refl
    is_one false is h = absurd (grind (arith, nat_tests, ap length h))

-- Laws: what stands at the places of lists, what holds of each item, and what a list contains.
use Rattle.std.proofs.Common.{◌≡◌, ◌⊎◌, inl, inr, ℕ, zero, suc, ◌+◌, ◌-◌, ◌<◌, ◌==◌, Bool, true, false, cond, ◌&&◌, List, [], ◌∷◌, ◌++◌, length, length-drop, take, drop, filter, get_or, None, Some, refl, sym, ap, ◌∙◌, arith}
use Rattle.std.specs.List.{AllByRecursion, Contains, slice_get, slice_index_or}
use Rattle.std.proofs.Math.ListN.{drop_of_length-le}
use Rattle.std.proofs.Math.Seq.{drop-cons, take-length}
use Rattle.std.proofs.Math.Numerals.{suc-eq-add-one}
use Rattle.std.proofs.lemmas.Bool.{cases_lt, eqb-true}
use Rattle.std.proofs.lemmas.List.{nil_from_length}
use Rattle.std.proofs.lemmas.Option.{get_or_from_slice_get, none-some, slice_get-get_or, slice_get_read, slice_get_within}

-- ---- a first item and the rest

pub cons-nil : {A : Type 0} (x : A) (xs : List A) → x ∷ xs ≡ [] → ⊥
cons-nil x xs e = cc

pub same_cons : {A : Type 0} (x y : A) (xs ys : List A) → x ∷ xs ≡ y ∷ ys → (x ≡ y) × (xs ≡ ys)
same_cons x y xs ys e = (cc, cc)

pub length-zero : {A : Type 0} (xs : List A) → (length xs == 0) ≡ true → xs ≡ []
length-zero xs none = nil_from_length xs (eqb-true (length xs) 0 none)

-- ---- items by their places

-- in the first of two lists
pub get-front : {A : Type 0} (xs ys : List A) (i : ℕ) → i < length xs → slice_get (xs ++ ys) i ≡ slice_get xs i
get-front [] ys i within = absurd (omega (arith, within))
get-front (x ∷ xs) ys zero within = refl
get-front (x ∷ xs) ys (suc i) within = get-front xs ys i (omega (arith, within))

-- in the second
pub get-behind : {A : Type 0} (xs ys : List A) (i n : ℕ) → n ≡ length xs + i
    → slice_get (xs ++ ys) n ≡ slice_get ys i
get-behind [] ys i n is = ap (slice_get ys) (omega (arith, is))
get-behind (x ∷ xs) ys i zero is = absurd (omega (arith, is))
get-behind (x ∷ xs) ys i (suc n) is = get-behind xs ys i n (omega (arith, is))

-- of none
pub get-nil : {A : Type 0} (x : A) (P : Type 0) → slice_get [] zero ≡ Some x → P
get-nil x P is = cc

-- between two
pub get-between : {A : Type 0} (xs : List A) (x : A) (ys : List A) → slice_get (xs ++ x ∷ ys) (length xs) ≡ Some x
get-between [] x ys = refl
get-between (y ∷ xs) x ys = get-between xs x ys

-- with more items behind
pub get-append : {A : Type 0} (xs ys : List A) (i : ℕ) (x : A) → slice_get xs i ≡ Some x
    → slice_get (xs ++ ys) i ≡ Some x
get-append xs ys i x is = get-front xs ys i (slice_get_within xs i x is) ∙ is

-- all from a place on
pub drop-get : {A : Type 0} (xs : List A) (i : ℕ) (x : A) → slice_get xs i ≡ Some x
    → drop i xs ≡ x ∷ drop (i + 1) xs
drop-get xs i x is =
    drop-cons xs i x (slice_get_within xs i x is)
    ∙ ap (λ y. y ∷ drop (suc i) xs) (get_or_from_slice_get xs i x x is)
    ∙ ap (λ n. x ∷ drop n xs) (suc-eq-add-one i)

pub drop-none : {A : Type 0} (xs : List A) (i : ℕ) → slice_get xs i ≡ None → drop i xs ≡ []
drop-none [] i is = drop_of_length-le [] {i = i} (omega arith)
drop-none (x ∷ xs) i is = elim (cases_lt i (length (x ∷ xs))) [
  | inl below ↦ absurd (none-some (get_or (x ∷ xs) i x) (sym is ∙ slice_get-get_or (x ∷ xs) i x below))
  | inr past ↦ drop_of_length-le (x ∷ xs) past
]

pub drop-read : {A : Type 0} (xs : List A) (i : ℕ) (x : A) → i < length xs → x ≡ slice_index_or xs i x
    → drop i xs ≡ x ∷ drop (i + 1) xs
drop-read xs i x within is = drop-get xs i x (slice_get_read xs (length xs) i x refl within is)

-- as many as there are behind a place
pub take-rest : {A : Type 0} (i : ℕ) (xs : List A) → take (length xs - i) (drop i xs) ≡ drop i xs
take-rest i xs = ap (λ (n : ℕ). take n (drop i xs)) (sym (length-drop i xs)) ∙ take-length (drop i xs)

-- ---- what holds of each item

pub each-append : {A : Type 0} (P : A → Type 0) (xs ys : List A) → AllByRecursion P xs → AllByRecursion P ys
    → AllByRecursion P (xs ++ ys)
each-append P [] ys each more = more
each-append P (x ∷ xs) ys each more = (each.0, each-append P xs ys each.1 more)

pub each-push : {A : Type 0} (P : A → Type 0) (xs : List A) (x : A) → AllByRecursion P xs → P x
    → AllByRecursion P (xs ++ x ∷ [])
each-push P xs x each one = each-append P xs (x ∷ []) each (one, tt)

-- of the first of two lists, and of the second
pub each-front : {A : Type 0} (P : A → Type 0) (xs ys : List A) → AllByRecursion P (xs ++ ys)
    → AllByRecursion P xs
each-front P [] ys each = tt
each-front P (x ∷ xs) ys each = (each.0, each-front P xs ys each.1)

pub each-behind : {A : Type 0} (P : A → Type 0) (xs ys : List A) → AllByRecursion P (xs ++ ys)
    → AllByRecursion P ys
each-behind P [] ys each = each
each-behind P (x ∷ xs) ys each = each-behind P xs ys each.1

-- ---- what a list contains

pub contains-none : {A : Type 0} (x : A) → Contains [] x → ⊥
contains-none x c = let less = c.1 in absurd (omega (arith, less))

pub contains-first : {A : Type 0} (xs : List A) (x : A) → Contains (x ∷ xs) x
contains-first xs x = (0, omega arith, refl)

pub contains-later : {A : Type 0} (y : A) (xs : List A) (x : A) → Contains xs x → Contains (y ∷ xs) x
contains-later y xs x c = let less = c.1 in (suc c.0, omega (arith, less), c.2)

pub contains-cases : {A : Type 0} (y : A) (xs : List A) (x : A) → Contains (y ∷ xs) x → (y ≡ x) ⊎ Contains xs x
contains-cases y xs x (zero, less, is) = inl is
contains-cases y xs x (suc k, less, is) = inr (k, omega (arith, less), is)

-- ---- items that pass a test

pub filter-all : {A : Type 0} (xs : List A) → filter (λ x. true) xs ≡ xs
filter-all [] = refl
filter-all (x ∷ xs) = ap (λ l. x ∷ l) (filter-all xs)

pub filter-both : {A : Type 0} (p q : A → Bool) (xs : List A)
    → filter q (filter p xs) ≡ filter (λ x. p x && q x) xs
filter-both p q [] = refl
filter-both {A} p q (x ∷ xs) = by (p x) (filter-both p q xs)
  where
    by : (b : Bool) → filter q (filter p xs) ≡ filter (λ (y : A). p y && q y) xs
        → filter q (cond b (x ∷ filter p xs) (filter p xs))
        ≡ cond (b && q x) (x ∷ filter (λ (y : A). p y && q y) xs) (filter (λ (y : A). p y && q y) xs)
    by true next = ap (λ l. cond (q x) (x ∷ l) l) next
    by false next = next

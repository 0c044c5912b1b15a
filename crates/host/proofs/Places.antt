-- What stands at a place, and under a name.
use Rattle.std.proofs.Common.{◌≡◌, ◌<◌, ℕ, suc, zero, Bool, true, false, List, [], ◌∷◌, length, get_or, set, Some, string_bytes, refl, sym, ap, ◌∙◌, subst, arith, ◌⊎◌, inl, inr}
use Rattle.std.specs.Prelude.{if◌then◌else◌}
use Rattle.std.specs.Str.{bytes_eq}
use Rattle.std.proofs.lemmas.Bool.{cases_Bool}
use Rattle.std.proofs.lemmas.List.Quantifiers.{position-Some}
use Rattle.std.proofs.Math.Seq.{map-set_same}
use Rattle.std.proofs.lemmas.List.{length-set}
use Rattle.std.proofs.lemmas.List.Folds.{position_or_len-set}
use Rattle.plain_laws.specs.Bytes.{bytes_eq-comm, bytes_eq-is}
use Rattle.host.specs.declared.memory.Named.{Named}
use Rattle.host.specs.Hosts.{put}
use Rattle.host.specs.Memory.{is_named, place_in, under, names_of}

-- what is named otherwise than a slot is none of its name
unlike : {T : Type 0} (name other : List ℕ) (slot : Named T) → is_named name slot ≡ false
    → is_named other slot ≡ true → bytes_eq other name ≡ false
unlike name other slot differs here = by (cases_Bool (bytes_eq other name))
  where
    by : (bytes_eq other name ≡ true) ⊎ (bytes_eq other name ≡ false) → bytes_eq other name ≡ false
    by (inr is) = is
    by (inl same) =
        let e : is_named name slot ≡ true = subst (λ (n : List ℕ). is_named n slot ≡ true) (bytes_eq-is other name same) here in
        let no : true ≡ false = sym e ∙ differs in
        cc

-- functions that give the same are the same
pub ext : {A B : Type 0} (f g : A → B) → ((x : A) → f x ≡ g x) → f ≡ g
ext f g each = λ i. λ x. each x i

-- the first slot of this name stands at a place
abbrev pub First : {T : Type 0} → List ℕ → List (Named T) → ℕ → Type 0
First name [] i = ⊥
First name (slot ∷ slots) zero = is_named name slot ≡ true
First name (slot ∷ slots) (suc i) = (is_named name slot ≡ false) × First name slots i

first_at : {T : Type 0} (name : List ℕ) (slots : List (Named T)) (i : ℕ) (d : Named T)
    → i < length slots → is_named name (get_or slots i d) ≡ true
    → ((k : ℕ) → k < i → is_named name (get_or slots k d) ≡ false) → First name slots i
first_at name [] i d inside here before = absurd (omega (arith, inside))
first_at name (slot ∷ slots) zero d inside here before = here
first_at name (slot ∷ slots) (suc i) d inside here before =
    (before 0 (omega arith), first_at name slots i d (omega (arith, inside)) here (λ k below. before (suc k) (omega (arith, below))))

pub is_first : {T : Type 0} (name : List ℕ) (slots : List (Named T)) (i : ℕ)
    → place_in name slots ≡ Some i → First name slots i
is_first name [] i at = absurd (cc)
is_first name (slot ∷ slots) i at =
    let found = position-Some (is_named name) (slot ∷ slots) i slot at in
    first_at name (slot ∷ slots) i slot found.0 found.1 found.2

pub under-at : {T A : Type 0} (unknown : A) (told : T → A) (name : List ℕ) (slots : List (Named T)) (i : ℕ) (d : Named T)
    → First name slots i → under unknown told slots name ≡ told (get_or slots i d).it
under-at unknown told name [] i d first = absurd first
under-at unknown told name (slot ∷ slots) zero d first = rw first
under-at unknown told name (slot ∷ slots) (suc i) d first = rw first.0 (under-at unknown told name slots i d first.1)

pub name-at : {T : Type 0} (name : List ℕ) (slots : List (Named T)) (i : ℕ) → First name slots i
    → get_or (names_of slots) i [] ≡ name
name-at name [] i first = absurd first
name-at name (slot ∷ slots) zero first = bytes_eq-is (string_bytes slot.name) name first
name-at name (slot ∷ slots) (suc i) first = name-at name slots i first.1

same_name : {T : Type 0} (slot new : Named T) (name : List ℕ) → new.name ≡ slot.name
    → is_named name new ≡ is_named name slot
same_name slot new name is = ap (λ s. bytes_eq (string_bytes s) name) is

-- the thing under a name is another
pub under-set : {T A : Type 0} (unknown : A) (told : T → A) (name : List ℕ) (slots : List (Named T)) (i : ℕ) (new d : Named T)
    → First name slots i → new.name ≡ (get_or slots i d).name → (other : List ℕ)
    → under unknown told (set slots i new) other ≡ put name (told new.it) (under unknown told slots) other
under-set unknown told name [] i new d first same other = absurd first
under-set unknown told name (slot ∷ slots) zero new d first same other =
    by (bytes_eq-is (string_bytes slot.name) name first)
  where
    choose : (b : Bool) → bytes_eq other name ≡ b
        → (if bytes_eq other name then told new.it else under unknown told slots other)
        ≡ (if bytes_eq other name then told new.it else (if bytes_eq other name then told slot.it else under unknown told slots other))
    choose true here = rw here refl
    choose false there = rw there refl

    by : string_bytes slot.name ≡ name
        → (if is_named other new then told new.it else under unknown told slots other)
        ≡ put name (told new.it) (under unknown told (slot ∷ slots)) other
    by is = rw (same_name slot new other same, is, bytes_eq-comm name other) (choose (bytes_eq other name) refl)
under-set unknown told name (slot ∷ slots) (suc i) new d first same other =
    by (under-set unknown told name slots i new d first.1 same other) (cases_Bool (is_named other slot))
  where
    by : under unknown told (set slots i new) other ≡ put name (told new.it) (under unknown told slots) other
        → (is_named other slot ≡ true) ⊎ (is_named other slot ≡ false)
        → (if is_named other slot then told slot.it else under unknown told (set slots i new) other)
        ≡ put name (told new.it) (under unknown told (slot ∷ slots)) other
    by earlier (inl here) = rw (here, unlike name other slot first.0 here) refl
    by earlier (inr there) = rw (there, earlier) refl

pub names-set : {T : Type 0} (slots : List (Named T)) (i : ℕ) (new d : Named T)
    → new.name ≡ (get_or slots i d).name → names_of (set slots i new) ≡ names_of slots
names-set slots i new d same = map-set_same (λ slot. string_bytes slot.name) slots i new d (ap string_bytes same)

pub place-set : {T : Type 0} (name : List ℕ) (slots : List (Named T)) (i : ℕ) (new d : Named T)
    → new.name ≡ (get_or slots i d).name → place_in name (set slots i new) ≡ place_in name slots
place-set name slots i new d same =
    rw (position_or_len-set (is_named name) slots i new d (same_name (get_or slots i d) new name same), length-set slots i new) refl

-- The parts of a stream are its texts from start to start.
use Rattle.std.specs.List.{starts_with, flat_map}
use Rattle.std.proofs.Common.{◌≡◌, ◌↔◌, ◌⊎◌, inl, inr, ℕ, zero, suc, ◌+◌, ◌<◌, Bool, true, false, ◌&&◌, ◌==◌, IsTrue, nat_eq, List, [], ◌∷◌, ◌++◌, length, drop, slice_index, All, Contains, refl, sym, ap, ◌∙◌, subst, arith}
use Rattle.std.proofs.lemmas.Bool.{eqb-true, eq-eqb, and_parts, and_from}
use Rattle.std.proofs.lemmas.List.Elements.{All-nil, All-cons}
use Rattle.plain_laws.specs.Lists.{contains-first, contains-later}
use Rattle.explorer_model.specs.Cuts.{Parted, parted, onto, event}
use Rattle.pgn_cut.specs.Starts.{IsStart, places_of}

-- ---- the parts make up the stream

joined : Parted → List ℕ
joined parts = parts.before ++ flat_map (λ text. text) parts.texts

joined-onto : (starts : Bool) (b : ℕ) (parts : Parted) → joined (onto starts b parts) ≡ b ∷ joined parts
unfolding joined onto
joined-onto true b parts = refl
joined-onto false b parts = refl

parts-whole : (fresh : Bool) (bytes : List ℕ) → joined (parted fresh bytes) ≡ bytes
unfolding joined parted
parts-whole fresh [] = refl
parts-whole fresh (b ∷ bytes) =
    joined-onto (fresh && starts_with nat_eq (b ∷ bytes) event) b (parted (b == 10) bytes)
    ∙ ap (λ (rest : List ℕ). b ∷ rest) (parts-whole (b == 10) bytes)

pub texts-whole : (bytes : List ℕ) → (parted true bytes).before ++ flat_map (λ text. text) (parted true bytes).texts ≡ bytes
unfolding joined
texts-whole bytes = parts-whole true bytes

-- ---- no text is empty

onto-some : (starts : Bool) (b : ℕ) (parts : Parted) → All (λ text. 0 < length text) parts.texts → All (λ text. 0 < length text) (onto starts b parts).texts
unfolding onto
onto-some true b parts all = All-cons (λ text. 0 < length text) (b ∷ parts.before) parts.texts (omega arith) all
onto-some false b parts all = all

parts-some : (fresh : Bool) (bytes : List ℕ) → All (λ text. 0 < length text) (parted fresh bytes).texts
unfolding parted
parts-some fresh [] = All-nil (λ text. 0 < length text)
parts-some fresh (b ∷ bytes) =
    onto-some (fresh && starts_with nat_eq (b ∷ bytes) event) b (parted (b == 10) bytes) (parts-some (b == 10) bytes)

pub texts-some : (bytes : List ℕ) → All (λ text. 0 < length text) (parted true bytes).texts
texts-some bytes = parts-some true bytes

-- ---- lists with an element

contains-from : (x y : ℕ) (xs : List ℕ) → Contains (x ∷ xs) y → (y ≡ x) ⊎ Contains xs y
contains-from x y xs (zero, below, is) = inl (sym is)
contains-from x y xs (suc k, below, is) = inr (k, omega (arith, below), is)

-- places one further on
further : (place y : ℕ) (texts : List (List ℕ)) → Contains (places_of place texts) y → Contains (places_of (suc place) texts) (suc y)
further place y [] (k, below, is) = absurd (omega (arith, below))
further place y (text ∷ texts) has =
    elim (contains-from place y (places_of (place + length text) texts) has) [
      | inl is ↦ subst (λ (x : ℕ). Contains (suc place ∷ places_of (suc place + length text) texts) (suc x)) (sym is)
          (contains-first (places_of (suc place + length text) texts) (suc place))
      | inr in_rest ↦ contains-later (suc place) (places_of (suc place + length text) texts) (suc y)
          (subst (λ (n : ℕ). Contains (places_of n texts) (suc y)) (omega arith) (further (place + length text) y texts in_rest))
    ]

nearer : (place y : ℕ) (texts : List (List ℕ)) → Contains (places_of (suc place) texts) (suc y) → Contains (places_of place texts) y
nearer place y [] (k, below, is) = absurd (omega (arith, below))
nearer place y (text ∷ texts) has =
    elim (contains-from (suc place) (suc y) (places_of (suc place + length text) texts) has) [
      | inl is ↦ subst (λ (x : ℕ). Contains (place ∷ places_of (place + length text) texts) x) (omega (arith, is))
          (contains-first (places_of (place + length text) texts) place)
      | inr in_rest ↦ contains-later place (places_of (place + length text) texts) y
          (nearer (place + length text) y texts (subst (λ (n : ℕ). Contains (places_of n texts) (suc y)) (omega arith) in_rest))
    ]

none-at-zero : (place : ℕ) (texts : List (List ℕ)) → Contains (places_of (suc place) texts) 0 → ⊥
none-at-zero place [] (k, below, is) = omega (arith, below)
none-at-zero place (text ∷ texts) has =
    elim (contains-from (suc place) 0 (places_of (suc place + length text) texts) has) [
      | inl is ↦ omega (arith, is)
      | inr in_rest ↦ none-at-zero (place + length text) texts
          (subst (λ (n : ℕ). Contains (places_of n texts) 0) (omega arith) in_rest)
    ]

-- ---- starts

-- a start where the byte before the first ends a line, or not
LineAt : Bool → List ℕ → ℕ → Type 0
LineAt fresh bytes zero = IsTrue fresh
LineAt fresh bytes (suc place) = slice_index bytes place ≡ 10

record StartsAt (fresh : Bool) (bytes : List ℕ) (place : ℕ) : Type 0 where
  within : place < length bytes
  line : LineAt fresh bytes place
  event : IsTrue (starts_with nat_eq (drop place bytes) event)

-- the first place, or one of the bytes behind
next-line : (b : ℕ) (bytes : List ℕ) (place : ℕ) → slice_index (b ∷ bytes) place ≡ 10 → LineAt (b == 10) bytes place
unfolding LineAt
next-line b bytes zero is = eq-eqb b 10 is
next-line b bytes (suc place) is = is

line-before : (b : ℕ) (bytes : List ℕ) (place : ℕ) → LineAt (b == 10) bytes place → slice_index (b ∷ bytes) place ≡ 10
unfolding LineAt
line-before b bytes zero is = eqb-true b 10 is
line-before b bytes (suc place) is = is

behind : (fresh : Bool) (b : ℕ) (bytes : List ℕ) (place : ℕ) → StartsAt fresh (b ∷ bytes) (suc place) → StartsAt (b == 10) bytes place
unfolding LineAt
behind fresh b bytes place at = record {
  within = omega (arith, at.within);
  line = next-line b bytes place at.line;
  event = at.event;
}

ahead-of : (fresh : Bool) (b : ℕ) (bytes : List ℕ) (place : ℕ) → StartsAt (b == 10) bytes place → StartsAt fresh (b ∷ bytes) (suc place)
unfolding LineAt
ahead-of fresh b bytes place at = record {
  within = omega (arith, at.within);
  line = line-before b bytes place at.line;
  event = at.event;
}

-- ---- the texts' places

abbrev places : Parted → List ℕ
places parts = places_of (length parts.before) parts.texts

places-onto : (starts : Bool) (b : ℕ) (parts : Parted) (place : ℕ) → Contains (places parts) place → Contains (places (onto starts b parts)) (suc place)
unfolding onto
places-onto true b parts place has =
    contains-later 0 (places_of (0 + length (b ∷ parts.before)) parts.texts) (suc place)
    (subst (λ (n : ℕ). Contains (places_of n parts.texts) (suc place)) (omega arith) (further (length parts.before) place parts.texts has))
places-onto false b parts place has = further (length parts.before) place parts.texts has

-- a text starts with the byte, or one of those behind it starts there
From : Bool → Parted → ℕ → Type 0
From starts parts zero = IsTrue starts
From starts parts (suc place) = Contains (places parts) place

places-from : (starts : Bool) (b : ℕ) (parts : Parted) (place : ℕ) → Contains (places (onto starts b parts)) place → From starts parts place
unfolding onto From
places-from true b parts zero has = refl
places-from true b parts (suc place) has =
    elim (contains-from 0 (suc place) (places_of (0 + length (b ∷ parts.before)) parts.texts) has) [
      | inl is ↦ absurd (omega (arith, is))
      | inr in_rest ↦ nearer (length parts.before) place parts.texts
          (subst (λ (n : ℕ). Contains (places_of n parts.texts) (suc place)) (omega arith) in_rest)
    ]
places-from false b parts zero has = absurd (none-at-zero (length parts.before) parts.texts has)
places-from false b parts (suc place) has = nearer (length parts.before) place parts.texts has

found-first : (b : ℕ) (parts : Parted) → Contains (places (onto true b parts)) 0
unfolding onto
found-first b parts = contains-first (places_of (0 + length (b ∷ parts.before)) parts.texts) 0

found : (fresh : Bool) (bytes : List ℕ) (place : ℕ) → StartsAt fresh bytes place → Contains (places (parted fresh bytes)) place
unfolding parted LineAt
found fresh [] place at = absurd (omega (arith, at.within))
found fresh (b ∷ bytes) zero at =
    let begins : Bool = fresh && starts_with nat_eq (b ∷ bytes) event in
    let rest : Parted = parted (b == 10) bytes in
    subst (λ (starts : Bool). Contains (places (onto starts b rest)) 0) (sym (and_from fresh (starts_with nat_eq (b ∷ bytes) event) at.line at.event))
    (found-first b rest)
found fresh (b ∷ bytes) (suc place) at =
    places-onto (fresh && starts_with nat_eq (b ∷ bytes) event) b (parted (b == 10) bytes) place (found (b == 10) bytes place (behind fresh b bytes place at))

told : (fresh : Bool) (bytes : List ℕ) (place : ℕ) → Contains (places (parted fresh bytes)) place → StartsAt fresh bytes place
unfolding parted LineAt From
told fresh [] place (k, below, is) = absurd (omega (arith, below))
told fresh (b ∷ bytes) zero has =
    let is : IsTrue fresh × IsTrue (starts_with nat_eq (b ∷ bytes) event) =
    and_parts fresh (starts_with nat_eq (b ∷ bytes) event)
    (places-from (fresh && starts_with nat_eq (b ∷ bytes) event) b (parted (b == 10) bytes) 0 has) in
    record { within = omega arith; line = is.0; event = is.1 }
told fresh (b ∷ bytes) (suc place) has =
    ahead-of fresh b bytes place
    (told (b == 10) bytes place (places-from (fresh && starts_with nat_eq (b ∷ bytes) event) b (parted (b == 10) bytes) (suc place) has))

at-line : (bytes : List ℕ) (place : ℕ) → slice_index (10 ∷ bytes) place ≡ 10 → LineAt true bytes place
unfolding LineAt
at-line bytes zero is = refl
at-line bytes (suc place) is = is

of-line : (bytes : List ℕ) (place : ℕ) → LineAt true bytes place → slice_index (10 ∷ bytes) place ≡ 10
unfolding LineAt
of-line bytes zero is = refl
of-line bytes (suc place) is = is

pub texts-start : (bytes : List ℕ) (place : ℕ) → IsStart bytes place ↔ Contains (places_of (length (parted true bytes).before) (parted true bytes).texts) place
texts-start bytes place = (
  λ at. found true bytes place (record { within = at.within; line = at-line bytes place at.line; event = at.event }),
  λ has. let at : StartsAt true bytes place = told true bytes place has in
      record { within = at.within; line = of-line bytes place at.line; event = at.event },
)

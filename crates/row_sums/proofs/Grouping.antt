-- Groups that are told apart by numbers, with one value more.
use Rattle.std.proofs.Common.{◌≡◌, ℕ, zero, suc, ◌+◌, ◌<◌, ◌≤◌, ◌==◌, nat_lt, eqb, Bool, true, false, not, ◌||◌, cond, List, [], ◌∷◌, ◌++◌, length, map, get_or, set, Option, Some, None, refl, sym, ap, ◌∙◌, arith}
use Rattle.std.specs.Prelude.{nat_eq}
use Rattle.std.specs.HashMap.{HashMap, get, Updates}
use Rattle.std.specs.List.{AllByRecursion, IsDistinct, list_any, position, position_or_len}
use Rattle.std.proofs.lemmas.Bool.Decides.{nat_tests}
use Rattle.std.proofs.lemmas.List.{map-append}
use Rattle.std.proofs.lemmas.List.Folds.{list_any-append, position_or_len_push}
use Rattle.row_sums.specs.Groups.{place_of, with_number, TellsPlaces, changed_at}

-- ---- the first place of a value that passes a test

module _ {X : Type 0} (p : X → Bool) where
  pub place-within : (xs : List X) → nat_lt (position_or_len p xs) (length xs) ≡ list_any p xs
  place-within [] = refl
  place-within (x ∷ xs) =
      let later = place-within xs in
      elim (p x) as (λ b. nat_lt (cond (not b) (1 + position_or_len p xs) 0) (suc (length xs)) ≡ (b || list_any p xs)) [
        | true ↦ grind (arith, nat_tests)
        | false ↦ grind (arith, nat_tests)
      ]

  pub place-least : (xs : List X) → position_or_len p xs ≤ length xs
  place-least [] = omega arith
  place-least (x ∷ xs) =
      let later = place-least xs in
      elim (p x) as (λ b. cond (not b) (1 + position_or_len p xs) 0 ≤ suc (length xs)) [ true ↦ omega arith | false ↦ omega arith ]

  pub position-some : (xs : List X) → list_any p xs ≡ true → position p xs ≡ Some (position_or_len p xs)
  position-some xs some = ap (λ b. cond b (Some (position_or_len p xs)) None) (place-within xs ∙ some)

  pub position-none : (xs : List X) → list_any p xs ≡ false → position p xs ≡ None
  position-none xs none = ap (λ b. cond b (Some (position_or_len p xs)) None) (place-within xs ∙ none)

  pub place-none : (xs : List X) → list_any p xs ≡ false → position_or_len p xs ≡ length xs
  place-none xs none = (let least = place-least xs in let within = place-within xs ∙ none in grind (arith, nat_tests))

  -- with one value more
  any-push : (xs : List X) (y : X) → list_any p (xs ++ y ∷ []) ≡ (list_any p xs || (p y || false))
  any-push xs y = list_any-append p xs (y ∷ [])

  place-push-some : (xs : List X) (y : X) → list_any p xs ≡ true → position_or_len p (xs ++ y ∷ []) ≡ position_or_len p xs
  place-push-some xs y some =
      let within : nat_lt (position_or_len p xs) (length xs) ≡ true = place-within xs ∙ some in
      let other : eqb (position_or_len p xs) (length xs) ≡ false = grind (arith, nat_tests) in
      position_or_len_push p xs y ∙ ap (λ b. cond b (length xs + cond (p y) 0 1) (position_or_len p xs)) other

  pub push-some : (xs : List X) (y : X) → list_any p xs ≡ true → position p (xs ++ y ∷ []) ≡ position p xs
  push-some xs y some =
      position-some (xs ++ y ∷ []) (any-push xs y ∙ ap (λ b. b || (p y || false)) some)
      ∙ ap Some (place-push-some xs y some) ∙ sym (position-some xs some)

  pub push-none : (xs : List X) (y : X) → list_any p xs ≡ false → p y ≡ false → position p (xs ++ y ∷ []) ≡ None
  push-none xs y none fails =
      position-none (xs ++ y ∷ []) (any-push xs y ∙ ap (λ b. b || (p y || false)) none ∙ ap (λ b. b || false) fails)

  pub push-new : (xs : List X) (y : X) → list_any p xs ≡ false → p y ≡ true → position p (xs ++ y ∷ []) ≡ Some (length xs)
  push-new xs y none passes =
      let at_end : eqb (position_or_len p xs) (length xs) ≡ true = (let place = place-none xs none in grind (arith, nat_tests)) in
      let place : position_or_len p (xs ++ y ∷ []) ≡ length xs + 0 =
      position_or_len_push p xs y ∙ ap (λ b. cond b (length xs + cond (p y) 0 1) (position_or_len p xs)) at_end
      ∙ ap (λ b. length xs + cond b 0 1) passes in
      position-some (xs ++ y ∷ []) (any-push xs y ∙ ap (λ b. b || (p y || false)) none ∙ ap (λ b. b || false) passes)
      ∙ ap Some (omega (arith, place))

-- ---- the map of places

some-of : {X : Type 0} (o : Option X) (x y : X) → o ≡ Some x → o ≡ Some y → x ≡ y
some-of o x y is also = cc

module _ {S : Type 0} (places : HashMap ℕ ℕ S) (numbers : List ℕ) (tells : TellsPlaces places numbers) (number : ℕ) where
  -- a number whose place is told is there
  pub told-there : (place : ℕ) → get nat_eq places number ≡ Some place → list_any (λ n. n == number) numbers ≡ true
  told-there place told = there (list_any (λ n. n == number) numbers) refl
    where
      there : (b : Bool) → list_any (λ n. n == number) numbers ≡ b → list_any (λ n. n == number) numbers ≡ true
      there true is = is
      there false is = (let none = sym told ∙ tells number ∙ position-none (λ n. n == number) numbers is in cc)

  pub told-place : (place : ℕ) → get nat_eq places number ≡ Some place → place ≡ place_of numbers number
  told-place place told =
      some-of (get nat_eq places number) place (place_of numbers number) told
      (tells number ∙ position-some (λ n. n == number) numbers (told-there place told))

  pub told-same : (place : ℕ) → get nat_eq places number ≡ Some place → TellsPlaces places (with_number numbers number)
  told-same place told = λ n.
      tells n ∙ ap (λ b. position (λ m. m == n) (cond b numbers (numbers ++ number ∷ []))) (sym (told-there place told))

  -- a number of which no place is told is new
  pub untold-new : get nat_eq places number ≡ None → list_any (λ n. n == number) numbers ≡ false
  untold-new untold = new (list_any (λ n. n == number) numbers) refl
    where
      new : (b : Bool) → list_any (λ n. n == number) numbers ≡ b → list_any (λ n. n == number) numbers ≡ false
      new false is = is
      new true is = (let some = sym untold ∙ tells number ∙ position-some (λ n. n == number) numbers is in cc)

  pub untold-place : get nat_eq places number ≡ None → length numbers ≡ place_of numbers number
  untold-place untold = sym (place-none (λ n. n == number) numbers (untold-new untold))

  pub untold-told : get nat_eq places number ≡ None → (now : HashMap ℕ ℕ S) → Updates nat_eq places now number (Some (length numbers))
      → TellsPlaces now (with_number numbers number)
  untold-told untold now updates = λ n.
      updates.0 n ∙ by n (nat_eq number n) refl
      ∙ ap (λ b. position (λ m. m == n) (cond b numbers (numbers ++ number ∷ []))) (sym (untold-new untold))
    where
      by : (n : ℕ) (b : Bool) → nat_eq number n ≡ b
          → cond (nat_eq number n) (Some (length numbers)) (get nat_eq places n) ≡ position (λ m. m == n) (numbers ++ number ∷ [])
      by n true is =
          let same : number ≡ n = grind (arith, nat_tests) in
          let none : list_any (λ m. m == n) numbers ≡ false = ap (λ k. list_any (λ m. m == k) numbers) (sym same) ∙ untold-new untold in
          ap (λ b. cond b (Some (length numbers)) (get nat_eq places n)) is
          ∙ sym (push-new (λ m. m == n) numbers number none (grind (arith, nat_tests)))
      by n false is =
          let fails : (number == n) ≡ false = is in
          ap (λ b. cond b (Some (length numbers)) (get nat_eq places n)) is ∙ tells n ∙ later (list_any (λ m. m == n) numbers) refl fails
        where
          later : (c : Bool) → list_any (λ m. m == n) numbers ≡ c → (number == n) ≡ false
              → position (λ m. m == n) numbers ≡ position (λ m. m == n) (numbers ++ number ∷ [])
          later true some fails = sym (push-some (λ m. m == n) numbers number some)
          later false none fails =
              position-none (λ m. m == n) numbers none ∙ sym (push-none (λ m. m == n) numbers number none fails)

-- a number that came has its place
pub with-there : (numbers : List ℕ) (number : ℕ) → position (λ n. n == number) (with_number numbers number) ≡ Some (place_of numbers number)
with-there numbers number = by (list_any (λ n. n == number) numbers) refl
  where
    by : (b : Bool) → list_any (λ n. n == number) numbers ≡ b
        → position (λ n. n == number) (cond (list_any (λ n. n == number) numbers) numbers (numbers ++ number ∷ [])) ≡ Some (place_of numbers number)
    by true some =
        ap (λ b. position (λ n. n == number) (cond b numbers (numbers ++ number ∷ []))) some ∙ position-some (λ n. n == number) numbers some
    by false none =
        ap (λ b. position (λ n. n == number) (cond b numbers (numbers ++ number ∷ []))) none
        ∙ push-new (λ n. n == number) numbers number none (grind (arith, nat_tests))
        ∙ ap Some (sym (place-none (λ n. n == number) numbers none))

-- a number whose place is told is there
pub there-told : (numbers : List ℕ) (number place : ℕ) → position (λ n. n == number) numbers ≡ Some place → list_any (λ n. n == number) numbers ≡ true
there-told numbers number place told = by (list_any (λ n. n == number) numbers) refl
  where
    by : (b : Bool) → list_any (λ n. n == number) numbers ≡ b → list_any (λ n. n == number) numbers ≡ true
    by true is = is
    by false is = (let none = sym told ∙ position-none (λ n. n == number) numbers is in cc)

pub there-place : (numbers : List ℕ) (number place : ℕ) → position (λ n. n == number) numbers ≡ Some place → place ≡ place_of numbers number
there-place numbers number place told =
    some-of (position (λ n. n == number) numbers) place (place_of numbers number) told
    (position-some (λ n. n == number) numbers (there-told numbers number place told))

pub there-same : (numbers : List ℕ) (number place : ℕ) → position (λ n. n == number) numbers ≡ Some place → with_number numbers number ≡ numbers
there-same numbers number place told = ap (λ b. cond b numbers (numbers ++ number ∷ [])) (there-told numbers number place told)

-- the number that came last stays found
pub last-told : (numbers : List ℕ) (number place : ℕ) → place ≡ place_of numbers number → (last : Option (ℕ × ℕ)) → last ≡ Some (number, place)
    → (n p : ℕ) → last ≡ Some (n, p) → position (λ m. m == n) (with_number numbers number) ≡ Some p
last-told numbers number place at last is n p told =
    let pair : (number, place) ≡ (n, p) = some-of last (number, place) (n, p) is told in
    (λ i. position (λ m. m == (sym pair i).0) (with_number numbers number)) ∙ with-there numbers number ∙ ap Some (sym at ∙ ap (λ x. x.1) pair)

-- ---- groups, of which one is changed or added

module _ {G : Type 0} (change : G → G) (added : G) where
  pub changed-within : (place : ℕ) (groups : List G) (d : G) → place < length groups
      → set groups place (change (get_or groups place d)) ≡ changed_at change added place groups
  unfolding changed_at
  changed-within place [] d within = absurd (omega arith)
  changed-within zero (g ∷ groups) d within = refl
  changed-within (suc place) (g ∷ groups) d within = ap (λ l. g ∷ l) (changed-within place groups d (omega arith))

  pub changed-behind : (place : ℕ) (groups : List G) → length groups ≤ place → groups ++ added ∷ [] ≡ changed_at change added place groups
  unfolding changed_at
  changed-behind place [] beyond = refl
  changed-behind zero (g ∷ groups) beyond = absurd (omega arith)
  changed-behind (suc place) (g ∷ groups) beyond = ap (λ l. g ∷ l) (changed-behind place groups (omega arith))

  changed-first : (g : G) (groups : List G) → changed_at change added 0 (g ∷ groups) ≡ change g ∷ groups
  unfolding changed_at
  changed-first g groups = refl

  changed-later : (place : ℕ) (g : G) (groups : List G) → changed_at change added (suc place) (g ∷ groups) ≡ g ∷ changed_at change added place groups
  unfolding changed_at
  changed-later place g groups = refl

  changed-none : (place : ℕ) → changed_at change added place [] ≡ added ∷ []
  unfolding changed_at
  changed-none place = refl

-- ---- groups of keys

module _ {K : Type 0} (number : K → ℕ) where
  abbrev pub same : K → K → Bool
  same a b = number a == number b

  -- by their numbers
  pub place-numbers : (ks : List K) (k : K) → place_of (map number ks) (number k) ≡ position_or_len (λ m. same m k) ks
  place-numbers [] k = refl
  place-numbers (m ∷ ms) k = ap (λ n. cond (not (same m k)) (1 + n) 0) (place-numbers ms k)

  pub any-numbers : (ks : List K) (k : K) → list_any (λ n. n == number k) (map number ks) ≡ list_any (λ m. same m k) ks
  any-numbers [] k = refl
  any-numbers (m ∷ ms) k = ap (λ b. same m k || b) (any-numbers ms k)

  pub more-numbers : (ks : List K) (k : K)
      → with_number (map number ks) (number k) ≡ map number (cond (list_any (λ m. same m k) ks) ks (ks ++ k ∷ []))
  more-numbers ks k =
      ap (λ b. cond b (map number ks) (map number ks ++ number k ∷ [])) (any-numbers ks k) ∙ by (list_any (λ m. same m k) ks)
    where
      by : (b : Bool) → cond b (map number ks) (map number ks ++ number k ∷ []) ≡ map number (cond b ks (ks ++ k ∷ []))
      by true = refl
      by false = sym (map-append number ks (k ∷ []))

  module _ {G : Type 0} (change : G → G) (added : G) (old new : K → G) (k : K)
      (kept : (m : K) → same m k ≡ false → new m ≡ old m) (taken : (m : K) → same m k ≡ true → new m ≡ change (old m)) where
    all-kept : (m : K) (ms : List K) → same m k ≡ true → AllByRecursion (λ y. same m y ≡ false) ms → map new ms ≡ map old ms
    all-kept m [] is apart = refl
    all-kept m (y ∷ ms) is apart =
        let other : same y k ≡ false = (let not_y : same m y ≡ false = apart.0 in grind (arith, nat_tests)) in
        ap (λ g. g ∷ map new ms) (kept y other) ∙ ap (λ l. old y ∷ l) (all-kept m ms is apart.1)

    one-more : (m : K) (ms : List K) (c : Bool) → map new (cond c (m ∷ ms) (m ∷ (ms ++ k ∷ []))) ≡ new m ∷ map new (cond c ms (ms ++ k ∷ []))
    one-more m ms true = refl
    one-more m ms false = refl

    grouped-by : (m : K) (ms : List K) (b : Bool) → same m k ≡ b → AllByRecursion (λ y. same m y ≡ false) ms
        → (b ≡ false → map new (cond (list_any (λ x. same x k) ms) ms (ms ++ k ∷ []))
        ≡ changed_at change added (position_or_len (λ x. same x k) ms) (map old ms))
        → map new (cond (b || list_any (λ x. same x k) ms) (m ∷ ms) (m ∷ (ms ++ k ∷ [])))
        ≡ changed_at change added (cond (not b) (1 + position_or_len (λ x. same x k) ms) 0) (old m ∷ map old ms)
    grouped-by m ms true is apart later =
        ap (λ g. g ∷ map new ms) (taken m is) ∙ ap (λ l. change (old m) ∷ l) (all-kept m ms is apart)
        ∙ sym (changed-first change added (old m) (map old ms))
    grouped-by m ms false is apart later =
        let place = position_or_len (λ x. same x k) ms in
        let next : 1 + place ≡ suc place = omega arith in
        one-more m ms (list_any (λ x. same x k) ms)
        ∙ ap (λ g. g ∷ map new (cond (list_any (λ x. same x k) ms) ms (ms ++ k ∷ []))) (kept m is)
        ∙ ap (λ l. old m ∷ l) (later refl)
        ∙ sym (changed-later change added place (old m) (map old ms))
        ∙ ap (λ n. changed_at change added n (old m ∷ map old ms)) (sym next)

    -- the groups with one value more, of the key k
    pub grouped : (ks : List K) → IsDistinct same ks → (list_any (λ m. same m k) ks ≡ false → new k ≡ added)
        → map new (cond (list_any (λ m. same m k) ks) ks (ks ++ k ∷ [])) ≡ changed_at change added (position_or_len (λ m. same m k) ks) (map old ks)
    unfolding IsDistinct
    grouped [] once fresh = ap (λ g. g ∷ []) (fresh refl) ∙ sym (changed-none change added 0)
    grouped (m ∷ ms) once fresh =
        grouped-by m ms (same m k) refl once.0
        (λ other. grouped ms once.1 (λ none. fresh (ap (λ b. b || list_any (λ x. same x k) ms) other ∙ none)))

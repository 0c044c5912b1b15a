-- Imports alone, apart and beside others; numbers of stored games.
use Rattle.std.proofs.Common.{◌≡◌, ℕ, suc, ◌+◌, Bool, true, false, List, [], ◌∷◌, ◌++◌, map, length, bytes_eq, slice_get, Option, Some, None, IfSome, unwrap_or, if◌then◌else◌, refl, sym, ap, ◌∙◌, subst, arith}
use Rattle.std.specs.List.{AllByRecursion}
use Rattle.explorer_model.specs.declared.archive.Game.{Game}
use Rattle.explorer_model.specs.Cuts.{Cut}
use Rattle.explorer_model.specs.Imports.{Examination, AreExaminations, Verdict, Accepted, Refused, Numbering, number_from, numbers_of, verdict_behind, verdicts, verdicts_behind, verdicts_by, verdicts_in_turn, candidates}

-- ---- alone is beside

-- for each group, the numbers of the games that are stored when its turn comes
abbrev pub numbers_in_turn : List Game → List (List Examination) → List Numbering
numbers_in_turn stored [] = []
numbers_in_turn stored (group ∷ groups) =
    numbers_of stored
    ∷ numbers_in_turn (stored ++ map (λ candidate. candidate.game) (candidates (verdicts_behind (numbers_of stored) group))) groups

pub in_turn-by : (stored : List Game) (groups : List (List Examination))
    → verdicts_in_turn stored groups ≡ verdicts_by (numbers_in_turn stored groups) groups
unfolding verdicts_in_turn
in_turn-by stored [] = refl
in_turn-by stored (group ∷ groups) =
    let done = verdicts_behind (numbers_of stored) group in
    ap (λ rest. done ∷ rest) (in_turn-by (stored ++ map (λ candidate. candidate.game) (candidates done)) groups)

pub one_each-in_turn : (stored : List Game) (groups : List (List Cut)) (examinations : List (List Examination))
    → AreExaminations groups examinations → length (numbers_in_turn stored examinations) ≡ length groups
one_each-in_turn stored [] [] are = refl
one_each-in_turn stored [] (e ∷ examinations) are = absurd are
one_each-in_turn stored (g ∷ groups) [] are = absurd are
one_each-in_turn stored (g ∷ groups) (e ∷ examinations) are =
    let next = stored ++ map (λ candidate. candidate.game) (candidates (verdicts_behind (numbers_of stored) e)) in
    ap (λ n. suc n) (one_each-in_turn next groups examinations are.1)

-- ---- apart is beside

-- no game is stored, for as many groups
abbrev pub none_stored : List (List Examination) → List Numbering
none_stored [] = []
none_stored (group ∷ groups) = (λ id. None) ∷ none_stored groups

behind_none : (done : List Verdict) → map (verdict_behind (λ id. None)) done ≡ done
behind_none [] = refl
behind_none (Accepted candidate ∷ rest) = ap (λ l. Accepted candidate ∷ l) (behind_none rest)
behind_none (Refused refusal ∷ rest) = ap (λ l. Refused refusal ∷ l) (behind_none rest)

pub apart-by : (groups : List (List Examination)) → map verdicts groups ≡ verdicts_by (none_stored groups) groups
apart-by [] = refl
apart-by (group ∷ groups) =
    ap (λ done. done ∷ map verdicts groups) (sym (behind_none (verdicts group)))
    ∙ ap (λ rest. verdicts_behind (λ id. None) group ∷ rest) (apart-by groups)

pub one_each-none : (groups : List (List Cut)) (examinations : List (List Examination))
    → AreExaminations groups examinations → length (none_stored examinations) ≡ length groups
one_each-none [] [] are = refl
one_each-none [] (e ∷ examinations) are = absurd are
one_each-none (g ∷ groups) [] are = absurd are
one_each-none (g ∷ groups) (e ∷ examinations) are = ap (λ n. suc n) (one_each-none groups examinations are.1)

-- ---- numbers of stored games

abbrev pub HasId : List ℕ → Game → Type 0
HasId id game = bytes_eq game.classes.id.bytes id ≡ true

-- the number is that of a game at a place, and this game has the id
record Names (first : ℕ) (id : List ℕ) (games : List Game) (number : ℕ) : Type 0 where
  place : ℕ
  counts : number ≡ first + place
  has : IfSome (slice_get games place) (HasId id)

names-by : (first : ℕ) (id : List ℕ) (game : Game) (games : List Game) (number : ℕ)
    → ((n : ℕ) → number_from (first + 1) id games ≡ Some n → Names (first + 1) id games n)
    → (b : Bool) → bytes_eq game.classes.id.bytes id ≡ b
    → (if b then Some first else number_from (first + 1) id games) ≡ Some number → Names first id (game ∷ games) number
names-by first id game games number later true has is =
    record { place = 0; counts = sym (some_is first number is) ∙ sym (add-0 first); has = has }
  where
    some_is : (a b : ℕ) → (let first : Option ℕ = Some a in first ≡ Some b) → a ≡ b
    some_is a b is = let value : Option ℕ → ℕ = λ o. unwrap_or o 0 in ap value is

    add-0 : (n : ℕ) → n + 0 ≡ n
    add-0 n = omega arith
names-by first id game games number later false not_here is =
    let rest = later number is in
    let counts : number ≡ first + suc rest.place = (let e = rest.counts in omega (arith, e)) in
    record { place = suc rest.place; counts = counts; has = rest.has }

names : (first : ℕ) (id : List ℕ) (games : List Game) (number : ℕ)
    → number_from first id games ≡ Some number → Names first id games number
names first id [] number is = absurd (None-not-Some number is)
  where
    None-not-Some : (n : ℕ) → (let none : Option ℕ = None in none ≡ Some n) → ⊥
    None-not-Some n is = let T : Option ℕ → Type 0 = λ o. IfSome o (λ n. ⊥) in subst T is cc
names first id (game ∷ games) number is =
    names-by first id game games number (λ n. names (first + 1) id games n) (bytes_eq game.classes.id.bytes id) refl is

pub numbers-name : (id : List ℕ) (games : List Game) (number : ℕ) → numbers_of games id ≡ Some number
    → IfSome (slice_get games number) (HasId id)
numbers-name id games number is =
    let it = names 0 id games number is in
    let H : ℕ → Type 0 = λ n. IfSome (slice_get games n) (HasId id) in
    let place : number ≡ it.place = (let e = it.counts in omega (arith, e)) in
    subst H (sym place) it.has

none-by : (first : ℕ) (id : List ℕ) (game : Game) (games : List Game)
    → (number_from (first + 1) id games ≡ None → AllByRecursion (λ g. bytes_eq g.classes.id.bytes id ≡ false) games)
    → (b : Bool) → bytes_eq game.classes.id.bytes id ≡ b
    → (if b then Some first else number_from (first + 1) id games) ≡ None
    → AllByRecursion (λ g. bytes_eq g.classes.id.bytes id ≡ false) (game ∷ games)
none-by first id game games later true has is = absurd (Some-not-None first is)
  where
    Some-not-None : (n : ℕ) → (let some : Option ℕ = Some n in some ≡ None) → ⊥
    Some-not-None n is = let T : Option ℕ → Type 0 = λ o. IfSome o (λ n. ⊥) in subst T (sym is) cc
none-by first id game games later false not_here is = (not_here, later is)

pub numbers-none : (first : ℕ) (id : List ℕ) (games : List Game) → number_from first id games ≡ None
    → AllByRecursion (λ game. bytes_eq game.classes.id.bytes id ≡ false) games
numbers-none first id [] is = tt
numbers-none first id (game ∷ games) is =
    none-by first id game games (numbers-none (first + 1) id games) (bytes_eq game.classes.id.bytes id) refl is

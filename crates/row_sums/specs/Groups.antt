-- Bridge: groups of rows that are told apart by numbers, in the order in which they first come.
use Rattle.std.specs.Prelude.{◌≡◌, ℕ, zero, suc, ◌==◌, cond, nat_eq, List, [], ◌∷◌, ◌++◌, Some}
use Rattle.std.specs.HashMap.{HashMap, get}
use Rattle.std.specs.List.{list_any, position, position_or_len}
use Rattle.row_sums.specs.declared.groups.Places.{Places}

-- ---- the numbers

-- the place of the number, behind all others where it is new
abbrev pub place_of : List ℕ → ℕ → ℕ
place_of numbers number = position_or_len (λ n. n == number) numbers

-- the numbers, with this one behind them where it is new
abbrev pub with_number : List ℕ → ℕ → List ℕ
with_number numbers number =
    cond (list_any (λ n. n == number) numbers) numbers (numbers ++ number ∷ [])

-- the map has the place of each of the numbers, and of no other number
abbrev pub TellsPlaces : {S : Type 0} → HashMap ℕ ℕ S → List ℕ → Type 0
TellsPlaces places numbers =
    (number : ℕ) → get nat_eq places number ≡ position (λ n. n == number) numbers

-- so do places with a map that has them, of which the last one is a place of its number
pub record Tells (places : Places) (numbers : List ℕ) : Type 0 where
  pub each : TellsPlaces places.all numbers
  pub last : (number place : ℕ) → places.last ≡ Some (number, place)
      → position (λ n. n == number) numbers ≡ Some place

-- ---- the groups

-- the group at the place is changed; behind the last one a group is added
unfoldable pub changed_at : {G : Type 0} → (G → G) → G → ℕ → List G → List G
changed_at change added place [] = added ∷ []
changed_at change added zero (group ∷ groups) = change group ∷ groups
changed_at change added (suc place) (group ∷ groups) =
    group ∷ changed_at change added place groups

-- Laws: where the texts of a stream start, in the words of the rule.
use Rattle.std.specs.Prelude.{◌≡◌, ℕ, ◌+◌, ◌<◌, IsTrue, List, [], ◌∷◌, length, drop, nat_eq, slice_index}
use Rattle.std.specs.List.{starts_with}
use Rattle.explorer_model.specs.Cuts.{event}

-- a line begins at the place: it is the first one, or the byte before it ends a line
abbrev pub BeginsLine : List ℕ → ℕ → Type 0
BeginsLine bytes place = slice_index (10 ∷ bytes) place ≡ 10

-- a text starts at the place: a line begins there, with an Event tag
pub record IsStart (bytes : List ℕ) (place : ℕ) : Type 0 where
  pub within : place < length bytes
  pub line : BeginsLine bytes place
  pub event : IsTrue (starts_with nat_eq (drop place bytes) event)

-- where texts start that stand one behind the other, the first at the place
abbrev pub places_of : ℕ → List (List ℕ) → List ℕ
places_of place [] = []
places_of place (text ∷ texts) = place ∷ places_of (place + length text) texts

-- Bridge: a book as it is held: its lines with their keys, and the first place of each key.
use Rattle.std.specs.Prelude.{◌≡◌, ℕ, ◌+◌, List, [], ◌∷◌, length, bytes_eq, cond, Option, None, Some, option_map}
use Rattle.std.specs.HashMap.{HashMap, get}
use Rattle.std.specs.List.{AllByRecursion, find}
use Rattle.explorer_model.specs.declared.opening.Opening.{Opening}
use Rattle.explorer_model.specs.Openings.{NamedPosition}
use Rattle.explorer_model.specs.Tidy.{IsTidyKey}
use Rattle.opening_names.specs.declared.line.NamedLine.{NamedLine}

-- the position that a line names, with its opening
abbrev pub named_line : NamedLine → NamedPosition
named_line line = record { position = line.position.value; opening = line.opening }

-- the line has the key that its position is counted under
pub record IsKeyed (line : NamedLine) : Type 0 where
  pub board : length line.position.value.squares ≡ 64
  pub key : IsTidyKey line.position.value line.key

abbrev pub AreKeyed : List NamedLine → Type 0
AreKeyed lines = AllByRecursion IsKeyed lines

-- the place of the first line that has the key
abbrev pub place_of : List NamedLine → List ℕ → Option ℕ
place_of [] key = None
place_of (line ∷ lines) key =
    cond (bytes_eq line.key key) (Some 0) (option_map (λ place. place + 1) (place_of lines key))

-- the map has the first place of each key of the lines, and of no other key
abbrev pub TellsPlaces : {S : Type 0} → HashMap (List ℕ) ℕ S → List NamedLine → Type 0
TellsPlaces places lines = (key : List ℕ) → get bytes_eq places key ≡ place_of lines key

-- the opening of the first line that has the key
abbrev pub opening_by : List NamedLine → List ℕ → Option Opening
opening_by lines key =
    option_map (λ line. line.opening) (find (λ line. bytes_eq line.key key) lines)

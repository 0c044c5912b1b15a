-- Statement: which texts of a batch have the id of a stored game.
use Rattle.std.specs.Prelude.{ℕ, ◌+◌, Bool, List, [], ◌∷◌, map, bytes_eq, Option, None, Some}
use Rattle.std.specs.List.{position_from}
use Rattle.explorer_model.specs.declared.archive.Classes.{Classes}
use Rattle.explorer_model.specs.Imports.{Numbering}
use Rattle.ingest_desk.specs.declared.clashing.Clashing.{Clashing}

-- the ids of games, by what their tags say
abbrev pub ids_of : List Classes → List (List ℕ)
ids_of classes = map (λ c. c.id.bytes) classes

abbrev pub is_id : List ℕ → List ℕ → Bool
is_id id other = bytes_eq id other

-- the number of the first game that has the id, where these are the ids of the games and the first
-- of them has this number
abbrev pub number_among : ℕ → List (List ℕ) → Numbering
number_among first ids id = position_from (is_id id) first ids

abbrev pub and_clash : ℕ → Option ℕ → List Clashing → List Clashing
and_clash place None clashes = clashes
and_clash place (Some number) clashes = record { place = place; number = number } ∷ clashes

-- the places of the ids that have a number, each with it, where the first id has this place
abbrev pub clashes_from : ℕ → Numbering → List (List ℕ) → List Clashing
clashes_from place number [] = []
clashes_from place number (id ∷ ids) =
    and_clash place (number id) (clashes_from (place + 1) number ids)

-- the texts of games with these classes whose ids have a number
abbrev pub clashes_of : Numbering → List Classes → List Clashing
clashes_of number classes = clashes_from 0 number (ids_of classes)

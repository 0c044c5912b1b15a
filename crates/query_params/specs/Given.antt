-- Bridge: the pairs of a query string as the code holds them, and values as they are given.
use Rattle.std.specs.Prelude.{ℕ, List, [], ◌∷◌, map, filter, bytes_eq, Option, None, Some, option_map, ok_or, Result}
use Rattle.explorer_model.specs.declared.query.BadParameter.{BadParameter}
use Rattle.explorer_model.specs.declared.player.BadPlayerParameter.{BadPlayerParameter}
use Rattle.explorer_model.specs.declared.player.PlayerParameter.{PlayerParameter}
use Rattle.explorer_model.specs.declared.query.Parameter.{Parameter}
use Rattle.explorer_model.specs.Players.{bad_player}
use Rattle.explorer_model.specs.Query.{text_of, player_parameter_text, value_in, value_named, bad, pieces_of}
use Rattle.query_params.specs.declared.pairs.Pair.{Pair}

abbrev pub texts : Pair → List ℕ × List ℕ
texts pair = (pair.name, pair.value)

-- the pairs that these stand for
abbrev pub decoded : List (List ℕ × List ℕ) → List (List ℕ × List ℕ)
decoded encoded = map (λ p. (text_of p.0, text_of p.1)) encoded

-- an empty value is none
abbrev pub not_empty : List ℕ → Option (List ℕ)
not_empty [] = None
not_empty (b ∷ bytes) = Some (b ∷ bytes)

-- a value, where one is given, if it is given once
abbrev pub given_once : {F : Type 0} → Option (List ℕ) → F → Result (Option (List ℕ)) F
given_once value fault = ok_or (option_map not_empty value) fault

-- the value of a parameter
abbrev pub given_in : Parameter → List (List ℕ × List ℕ) → Result (Option (List ℕ)) BadParameter
given_in name pairs = given_once (value_in name pairs) (bad name)

-- the value of a parameter of a query for a player's games
abbrev pub player_given_in : PlayerParameter → List (List ℕ × List ℕ)
    → Result (Option (List ℕ)) BadPlayerParameter
player_given_in name pairs =
    given_once (value_named (player_parameter_text name) pairs) (bad_player name)

-- the values of all pairs with the name
abbrev pub values_named : List ℕ → List (List ℕ × List ℕ) → List (List ℕ)
values_named name pairs = map (λ p. p.1) (filter (λ p. bytes_eq p.0 name) pairs)

-- the value that was found, in a list
abbrev pub list_of : Option (List ℕ) → List (List ℕ)
list_of None = []
list_of (Some value) = value ∷ []

-- the pieces of a text that may be missing
abbrev pub pieces_left : Option (List ℕ) → List (List ℕ)
pieces_left None = []
pieces_left (Some text) = pieces_of text

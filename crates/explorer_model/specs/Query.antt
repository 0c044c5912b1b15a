-- Statement: what a query string asks: its parameters, read in one order, or the first that is
-- malformed.
use Rattle.std.specs.Prelude.{◌≡◌, ℕ, ◌==◌, ◌&&◌, ◌⊎◌, Bool, true, false, List, [], ◌∷◌, map, filter, length, take, drop, slice_index, min, nat_le, bytes_eq, codes, if◌then◌else◌, Option, Some, None, option_map, option_and_then, ok_or, Result, Ok, Err}
use Rattle.std.specs.List.{list_any, list_all, slice_split}
use Rattle.std.specs.Result.{result_map_both}
use Rattle.std.specs.Str.{byte, all_ascii_digits}
use Rattle.std.specs.Str.Lossy.{utf8_lossy}
use Rattle.std.specs.Str.Parse.{digits_value}
use Rattle.form_urlencoded.specs.Form.{raw_pairs, decode}
use Rattle.explorer_model.specs.declared.archive.Month.{Month}
use Rattle.explorer_model.specs.declared.chess.Move.{Move}
use Rattle.explorer_model.specs.declared.chess.Position.{Position}
use Rattle.explorer_model.specs.declared.notation.FenFault.{FenFault}
use Rattle.explorer_model.specs.declared.notation.UciFault.{UciFault}
use Rattle.explorer_model.specs.declared.player.PlayerParameter.{PlayerParameter}
use Rattle.explorer_model.specs.declared.player.PlayerParameter.TheVariants as players
use Rattle.explorer_model.specs.declared.query.BadParameter.{BadParameter}
use Rattle.explorer_model.specs.declared.query.Parameter.{Parameter}
use Rattle.explorer_model.specs.declared.query.Parameter.TheVariants.{Variant, Fen, Play, Speeds, Ratings, Since, Until, Moves, TopGames, RecentGames, History}
use Rattle.explorer_model.specs.declared.query.Query.{Query}
use Rattle.explorer_model.specs.Chess.{start, after}
use Rattle.explorer_model.specs.Classes.{number_of}
use Rattle.explorer_model.specs.Fen.{FenReads}
use Rattle.explorer_model.specs.Stop.{◌>>=◌}
use Rattle.explorer_model.specs.Uci.{UciReads}

-- ---- pairs

-- what a name or a value of the query string stands for
abbrev pub text_of : List ℕ → List ℕ
text_of encoded = utf8_lossy (decode encoded)

abbrev pub pairs_of : List ℕ → List (List ℕ × List ℕ)
pairs_of query = map (λ p. (text_of p.0, text_of p.1)) (raw_pairs query)

abbrev pub parameter_text : Parameter → List ℕ
parameter_text Variant = codes "variant"
parameter_text Fen = codes "fen"
parameter_text Play = codes "play"
parameter_text Speeds = codes "speeds"
parameter_text Ratings = codes "ratings"
parameter_text Since = codes "since"
parameter_text Until = codes "until"
parameter_text Moves = codes "moves"
parameter_text TopGames = codes "topGames"
parameter_text RecentGames = codes "recentGames"
parameter_text History = codes "history"

-- the names of a query for a player's games
abbrev pub player_parameter_text : PlayerParameter → List ℕ
player_parameter_text players.Player = codes "player"
player_parameter_text players.Color = codes "color"
player_parameter_text players.Modes = codes "modes"
player_parameter_text (players.Common name) = parameter_text name

-- ---- values

-- a name may be given once; where it is not, its value is empty
abbrev pub at_most_one : List (List ℕ) → Option (List ℕ)
at_most_one [] = Some []
at_most_one (value ∷ []) = Some value
at_most_one _ = None

-- the value under a name; None where it is given twice
abbrev pub value_named : List ℕ → List (List ℕ × List ℕ) → Option (List ℕ)
value_named text pairs = at_most_one (map (λ p. p.1) (filter (λ p. bytes_eq p.0 text) pairs))

-- the value of a parameter
unfoldable pub value_in : Parameter → List (List ℕ × List ℕ) → Option (List ℕ)
value_in name pairs = value_named (parameter_text name) pairs

abbrev pub bad : Parameter → BadParameter
bad name = record { name = name }

-- an empty value means the default
abbrev pub or_default : {A : Type 0} → (List ℕ → Option A) → A → List ℕ → Option A
or_default rule default [] = Some default
or_default rule default (b ∷ bytes) = rule (b ∷ bytes)

-- the parameter by the rule of its values
abbrev pub asked : {A : Type 0} → (List ℕ → Option A) → A → Parameter → List (List ℕ × List ℕ)
    → Result A BadParameter
asked rule default name pairs =
    ok_or (option_and_then (or_default rule default) (value_in name pairs)) (bad name)

-- the pieces between commas
abbrev pub pieces_of : List ℕ → List (List ℕ)
pieces_of text = slice_split (λ b. b == byte ",") text

abbrev pub is_among : List (List ℕ) → List ℕ → Bool
is_among texts text = list_any (λ other. bytes_eq other text) texts

-- some of the names, with commas: which of them are given
unfoldable pub names_given : List (List ℕ) → List ℕ → Option (List Bool)
names_given names text =
    if list_all (is_among names) (pieces_of text) then Some (map (is_among (pieces_of text)) names)
    else None

abbrev pub speed_names : List (List ℕ)
speed_names =
    codes "ultraBullet" ∷ codes "bullet" ∷ codes "blitz" ∷ codes "rapid" ∷ codes "classical"
    ∷ codes "correspondence" ∷ []

abbrev pub group_names : List (List ℕ)
group_names =
    codes "0" ∷ codes "1000" ∷ codes "1200" ∷ codes "1400" ∷ codes "1600" ∷ codes "1800"
    ∷ codes "2000" ∷ codes "2200" ∷ codes "2500" ∷ []

abbrev pub all_given : List (List ℕ) → List Bool
all_given names = map (λ name. true) names

abbrev pub standard_only : List ℕ → Option Bool
standard_only text = if bytes_eq text (codes "standard") then Some true else None

-- YYYY-MM, the month from 01 to 12
unfoldable pub month_named : List ℕ → Option Month
month_named text =
    let year = take 4 text in
    let month = drop 5 text in
    if length text == 7 && all_ascii_digits year && slice_index text 4 == byte "-"
    && all_ascii_digits month
    && nat_le 1 (digits_value 10 month) && nat_le (digits_value 10 month) 12
    then Some (record { year = digits_value 10 year; month = digits_value 10 month })
    else None

abbrev pub bound_named : List ℕ → Option (Option Month)
bound_named text = option_map (λ month. Some month) (month_named text)

-- one to six digits
abbrev pub most_moves : List ℕ → Option ℕ
most_moves text = number_of 6 text

-- the most games of a list; no more than four are listed
abbrev pub most_games : List ℕ → Option ℕ
most_games text = option_map (λ n. min n 4) (number_of 6 text)

unfoldable pub switch_named : List ℕ → Option Bool
switch_named text =
    if bytes_eq text (codes "true") then Some true
    else (if bytes_eq text (codes "false") then Some false else None)

-- ---- the position

-- the position of the value of `fen`
abbrev pub RootReads : Option (List ℕ) → Result Position BadParameter → Type 0
RootReads None root = root ≡ Err (bad Fen)
RootReads (Some []) root = root ≡ Ok start
RootReads (Some (b ∷ bytes)) root =
    ((p : Position) × FenReads (b ∷ bytes) (Ok p) × (root ≡ Ok p))
    ⊎ ((fault : FenFault) × FenReads (b ∷ bytes) (Err fault) × (root ≡ Err (bad Fen)))

-- moves from a position, and the position that they lead to
pub record Line : Type 0 where
  pub moves : List Move
  pub at : Position

abbrev pub onto_line : Move → Result Line BadParameter → Result Line BadParameter
onto_line m rest =
    result_map_both (λ line. record { moves = m ∷ line.moves; at = line.at }) (λ fault. fault) rest

-- the texts are moves, each legal in its turn
abbrev pub MovesRead : Position → List (List ℕ) → Result Line BadParameter → Type 0
MovesRead p [] line = line ≡ Ok (record { moves = []; at = p })
MovesRead p (text ∷ texts) line =
    ((m : Move) × (rest : Result Line BadParameter) × UciReads p text (Ok m)
    × MovesRead (after p m) texts rest × (line ≡ onto_line m rest))
    ⊎ ((fault : UciFault) × UciReads p text (Err fault) × (line ≡ Err (bad Play)))

-- the line of the value of `play`
abbrev pub PlayReads : Position → Option (List ℕ) → Result Line BadParameter → Type 0
PlayReads root None line = line ≡ Err (bad Play)
PlayReads root (Some []) line = line ≡ Ok (record { moves = []; at = root })
PlayReads root (Some (b ∷ bytes)) line = MovesRead root (pieces_of (b ∷ bytes)) line

-- where there is no root, there is no line to be read
abbrev pub LineReads : Result Position BadParameter → Option (List ℕ) → Result Line BadParameter
    → Type 0
LineReads (Err fault) value line = line ≡ Err fault
LineReads (Ok root) value line = PlayReads root value line

-- ---- the query

-- the parameters after the position, in their order
unfoldable pub query_from : List (List ℕ × List ℕ) → Position → Line → Result Query BadParameter
query_from pairs root line = do
  speeds ← asked (names_given speed_names) (all_given speed_names) Speeds pairs
  groups ← asked (names_given group_names) (all_given group_names) Ratings pairs
  since ← asked bound_named None Since pairs
  until ← asked bound_named None Until pairs
  moves ← asked most_moves 12 Moves pairs
  top ← asked most_games 4 TopGames pairs
  recent ← asked most_games 4 RecentGames pairs
  history ← asked switch_named false History pairs
  Ok (record {
    root = root;
    plays = line.moves;
    at = line.at;
    filter = record { speeds = speeds; groups = groups; since = since; until = until };
    moves = moves;
    top = top;
    recent = recent;
    history = history;
  })

-- the query of decoded pairs, or the first parameter that is malformed
abbrev pub QueryIn : List (List ℕ × List ℕ) → Result Query BadParameter → Type 0
QueryIn pairs query =
    (root : Result Position BadParameter) × (line : Result Line BadParameter)
    × RootReads (value_in Fen pairs) root
    × LineReads root (value_in Play pairs) line
    × (query ≡
    (asked standard_only true Variant pairs >>= λ standard.
    root >>= λ p. line >>= λ l. query_from pairs p l))

-- the query that the query string asks, or the first parameter that is malformed
abbrev pub QueryReads : List ℕ → Result Query BadParameter → Type 0
QueryReads text query = QueryIn (pairs_of text) query

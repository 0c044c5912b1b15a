-- Statement: a player's games: what is asked of them, and what is found: the recount of the games
-- of a journal in which the player has the colour.
use Rattle.std.specs.Prelude.{◌≡◌, ℕ, ◌&&◌, Bool, true, false, List, [], ◌∷◌, map, length, slice_index_or, bytes_eq, codes, if◌then◌else◌, Option, Some, None, option_and_then, ok_or, Result, Ok, Err}
use Rattle.std.specs.List.{AllZip}
use Rattle.std.specs.Result.{result_map_both}
use Rattle.serde_json.specs.Data.{Data, string, array, Items, no_items, item, object, member, no_members}
use Rattle.serde_json.specs.Written.{compact_text}
use Rattle.explorer_model.specs.declared.opening.Naming.{Naming}
use Rattle.explorer_model.specs.declared.opening.Opening.{Opening}
use Rattle.explorer_model.specs.declared.archive.Batch.{Batch}
use Rattle.explorer_model.specs.declared.archive.Classes.{Classes}
use Rattle.explorer_model.specs.declared.archive.Game.{Game}
use Rattle.explorer_model.specs.declared.archive.Mode.{Mode}
use Rattle.explorer_model.specs.declared.archive.Mode.TheVariants.{Rated, Casual}
use Rattle.explorer_model.specs.declared.chess.Color.{Color}
use Rattle.explorer_model.specs.declared.chess.Color.TheVariants as colors
use Rattle.explorer_model.specs.declared.chess.Move.{Move}
use Rattle.explorer_model.specs.declared.chess.Position.{Position}
use Rattle.explorer_model.specs.declared.player.BadPlayerParameter.{BadPlayerParameter}
use Rattle.explorer_model.specs.declared.player.PlayerFound.{PlayerFound}
use Rattle.explorer_model.specs.declared.player.PlayerLine.{PlayerLine}
use Rattle.explorer_model.specs.declared.player.PlayerParameter.{PlayerParameter}
use Rattle.explorer_model.specs.declared.player.PlayerParameter.TheVariants as players
use Rattle.explorer_model.specs.declared.player.PlayerQuery.{PlayerQuery}
use Rattle.explorer_model.specs.declared.query.BadParameter.{BadParameter}
use Rattle.explorer_model.specs.declared.query.Parameter.TheVariants.{Variant, Fen, Play, Speeds, Since, Until, Moves, RecentGames}
use Rattle.explorer_model.specs.declared.wire.Reply.{Reply}
use Rattle.explorer_model.specs.declared.wire.Reply.TheVariants as replies
use Rattle.explorer_model.specs.Answer.{array_by, count_value, game_value, listed_value, opening_value}
use Rattle.explorer_model.specs.Board.{opponent}
use Rattle.explorer_model.specs.Counting.{any_next, average_of, before_by_month, counts, first_moves, game_of_move, games_by, move_totals, passes, rating_of, totals_of}
use Rattle.explorer_model.specs.Letters.{is_same_word}
use Rattle.explorer_model.specs.Openings.{IsNaming, NamedPosition}
use Rattle.explorer_model.specs.Query.{Line, LineReads, RootReads, all_given, asked, bound_named, group_names, most_games, most_moves, names_given, or_default, pairs_of, player_parameter_text, speed_names, standard_only, value_in, value_named}
use Rattle.explorer_model.specs.San.{SanText}
use Rattle.explorer_model.specs.Stop.{◌>>=◌}
use Rattle.explorer_model.specs.Uci.{uci_text}
use Rattle.explorer_model.specs.Visits.{AreGamesOf, GameAt, IsGameAt}

-- ---- what is asked

abbrev pub bad_player : PlayerParameter → BadPlayerParameter
bad_player name = record { name = name }

-- a parameter that queries have in common
abbrev pub common : {A : Type 0} → Result A BadParameter → Result A BadPlayerParameter
common reading = result_map_both (λ value. value) (λ bad. bad_player (players.Common bad.name)) reading

-- a parameter that has to be given, and not be empty
abbrev pub demanded : {A : Type 0} → (List ℕ → Option A) → PlayerParameter
    → List (List ℕ × List ℕ) → Result A BadPlayerParameter
demanded rule name pairs = ok_or
    (option_and_then (given_by rule) (value_named (player_parameter_text name) pairs))
    (bad_player name)
  where
    given_by : {A : Type 0} → (List ℕ → Option A) → List ℕ → Option A
    given_by rule [] = None
    given_by rule (b ∷ bytes) = rule (b ∷ bytes)

abbrev pub player_named : List ℕ → Option (List ℕ)
player_named text = Some text

unfoldable pub color_named : List ℕ → Option Color
color_named text =
    if bytes_eq text (codes "white") then Some colors.White
    else (if bytes_eq text (codes "black") then Some colors.Black else None)

abbrev pub mode_names : List (List ℕ)
mode_names = codes "rated" ∷ codes "casual" ∷ []

abbrev pub modes_in : List (List ℕ × List ℕ) → Result (List Bool) BadPlayerParameter
modes_in pairs = ok_or
    (option_and_then (or_default (names_given mode_names) (all_given mode_names))
    (value_named (player_parameter_text players.Modes) pairs))
    (bad_player players.Modes)

-- the parameters in their order, over the readings of the position and of the line
unfoldable pub player_query_by : List (List ℕ × List ℕ) → Result Position BadParameter
    → Result Line BadParameter → Result PlayerQuery BadPlayerParameter
player_query_by pairs root line = do
  player ← demanded player_named players.Player pairs
  color ← demanded color_named players.Color pairs
  _ ← common (asked standard_only true Variant pairs)
  p ← common root
  l ← common line
  speeds ← common (asked (names_given speed_names) (all_given speed_names) Speeds pairs)
  modes ← modes_in pairs
  since ← common (asked bound_named None Since pairs)
  until ← common (asked bound_named None Until pairs)
  moves ← common (asked most_moves 12 Moves pairs)
  recent ← common (asked most_games 4 RecentGames pairs)
  Ok (record {
    player = player;
    color = color;
    modes = modes;
    query = record {
      root = p;
      plays = l.moves;
      at = l.at;
      filter = record { speeds = speeds; groups = all_given group_names; since = since; until = until };
      moves = moves;
      top = 0;
      recent = recent;
      history = false;
    };
  })

-- the query that the query string asks, or the first parameter that is malformed
abbrev pub PlayerQueryReads : List ℕ → Result PlayerQuery BadPlayerParameter → Type 0
PlayerQueryReads text query =
    (root : Result Position BadParameter) × (line : Result Line BadParameter)
    × RootReads (value_in Fen (pairs_of text)) root
    × LineReads root (value_in Play (pairs_of text)) line
    × (query ≡ player_query_by (pairs_of text) root line)

-- ---- what is found

abbrev pub name_of_side : Color → Classes → List ℕ
name_of_side colors.White classes = classes.white.name
name_of_side colors.Black classes = classes.black.name

-- the player has the colour in the game; the case of ASCII letters does not count
abbrev pub plays_as : List ℕ → Color → Classes → Bool
plays_as player color classes = is_same_word (name_of_side color classes) player

-- where a mode stands among the modes
abbrev pub mode_index : Mode → ℕ
mode_index Rated = 0
mode_index Casual = 1

-- the games that the query wants
unfoldable pub is_wanted : PlayerQuery → Classes → Bool
is_wanted q classes =
    plays_as q.player q.color classes
    && slice_index_or q.modes (mode_index classes.mode) false
    && passes q.query.filter classes

-- the line of a move, with the mean rating of those who played against the player
pub record IsPlayerLineOf (q : PlayerQuery) (games : List GameAt) (m : Move) (line : PlayerLine)
    : Type 0 where
  pub next : line.next ≡ m
  pub san : SanText q.query.at m line.san
  pub average : line.average ≡ average_of (rating_of (opponent q.color)) m (is_wanted q) games
  pub totals : line.totals ≡ move_totals (is_wanted q) games m
  pub game : line.game ≡ game_of_move m (is_wanted q) games

pub record IsPlayerRecount (q : PlayerQuery) (games : List GameAt) (found : PlayerFound)
    : Type 0 where
  pub totals : found.totals ≡ totals_of (counts any_next (is_wanted q)) games
  pub moves : AllZip (IsPlayerLineOf q games)
      (first_moves q.query.moves (is_wanted q) games) found.moves
  pub recent : found.recent ≡ games_by before_by_month q.query.recent (is_wanted q) games

-- the answer to the query over the games of a journal
pub record IsPlayerFound (journal : List Batch) (q : PlayerQuery) (found : PlayerFound)
    : Type 0 where
  pub games : List Game
  pub are_games : AreGamesOf journal games
  pub games_at : List GameAt
  pub are_games_at : AllZip (IsGameAt q.query.at) games games_at
  pub recount : IsPlayerRecount q games_at found

-- ---- the body

abbrev pub player_move_value : PlayerLine → Option Opening → Data
player_move_value line opening = object
    (member (codes "averageOpponentRating") (count_value line.average)
    (member (codes "black") (count_value line.totals.black)
    (member (codes "draws") (count_value line.totals.draws)
    (member (codes "game") (game_value line.game)
    (member (codes "opening") (opening_value opening)
    (member (codes "san") (string line.san)
    (member (codes "uci") (string (uci_text line.next))
    (member (codes "white") (count_value line.totals.white)
    no_members))))))))

abbrev pub player_move_items : List PlayerLine → List (Option Opening) → Items
player_move_items [] openings = no_items
player_move_items (line ∷ lines) [] = item (player_move_value line None) (player_move_items lines [])
player_move_items (line ∷ lines) (opening ∷ openings) =
    item (player_move_value line opening) (player_move_items lines openings)

abbrev pub player_value : PlayerFound → Naming → Data
player_value found naming = object
    (member (codes "black") (count_value found.totals.black)
    (member (codes "draws") (count_value found.totals.draws)
    (member (codes "moves") (array (player_move_items found.moves naming.moves))
    (member (codes "opening") (opening_value naming.whole)
    (member (codes "recentGames") (array_by listed_value found.recent)
    (member (codes "white") (count_value found.totals.white)
    no_members))))))

unfoldable pub player_body : PlayerFound → Naming → List ℕ
player_body found naming = compact_text (player_value found naming)

-- ---- the reply

-- the body is that of what is found in the journal with its openings, and the number is that of its
-- batches
pub record IsPlayerFoundIn (book : List NamedPosition) (text : List ℕ) (journal : List Batch)
    (batches : ℕ) (body : List ℕ) : Type 0 where
  pub number : batches ≡ length journal
  pub query : PlayerQuery
  pub asks : PlayerQueryReads text (Ok query)
  pub found : PlayerFound
  pub is_found : IsPlayerFound journal query found
  pub naming : Naming
  pub is_naming : IsNaming book query.query (map (λ line. line.next) found.moves) naming
  pub is_body : body ≡ player_body found naming

abbrev pub IsPlayerAnswerOf : List NamedPosition → List ℕ → List Batch → Reply → Type 0
IsPlayerAnswerOf book text journal (replies.Found batches body) =
    IsPlayerFoundIn book text journal batches body
IsPlayerAnswerOf book text journal (replies.BadPlayerParameter name) =
    PlayerQueryReads text (Err (bad_player name))
IsPlayerAnswerOf book text journal _ = ⊥

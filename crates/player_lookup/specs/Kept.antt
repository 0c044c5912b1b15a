-- Bridge: a player's games as rows of one game each.
use Rattle.std.specs.Prelude.{ℕ, ◌+◌, Bool, true, ◌&&◌, false, List, [], ◌∷◌, ◌++◌, slice_index_or, Option, Some, None}
use Rattle.std.specs.List.{flat_map, slice_get}
use Rattle.best_lists.specs.declared.entry.Entry.{Entry}
use Rattle.explorer_model.specs.Board.{opponent}
use Rattle.explorer_model.specs.Counting.{NumberedGame, month_number, passes, rating_of, ratings_of}
use Rattle.explorer_model.specs.Players.{mode_index}
use Rattle.explorer_model.specs.Visits.{GameAt}
use Rattle.explorer_model.specs.declared.archive.Classes.{Classes}
use Rattle.explorer_model.specs.declared.chess.Move.{Move}
use Rattle.explorer_model.specs.declared.player.PlayerQuery.{PlayerQuery}
use Rattle.row_sums.specs.Hits.{NumberedRow}
use Rattle.tally_rows.specs.declared.single.Single.{Single}
use Rattle.tally_rows.specs.Row.{row_of}

-- ---- the row of a game

-- a game as it counts in the position of the key, with the rating that is averaged
abbrev pub single_kept : (Classes → ℕ) → List ℕ → ℕ → Classes → Option Move → Single
single_kept rated key number classes next = record {
  row_key = record {
    key = key;
    next = next;
    month = classes.month;
    speed = classes.speed;
    group = classes.group;
  };
  number = number;
  outcome = classes.outcome;
  rating = rated classes;
  sum = ratings_of classes;
}

-- a single as a row of its own, if there is one
abbrev pub row_of_single : Option Single → List NumberedRow
row_of_single None = []
row_of_single (Some single) = record { row = row_of single; first = 0 } ∷ []

module _ (rated : Classes → ℕ) (key : List ℕ) where
  abbrev pub row_kept : ℕ → Classes → Option Move → NumberedRow
  row_kept number classes next =
      record { row = row_of (single_kept rated key number classes next); first = 0 }

  abbrev pub rows_by : Bool → ℕ → Classes → Option (Option Move) → List NumberedRow
  rows_by true number classes (Some next) = row_kept number classes next ∷ []
  rows_by _ number classes _ = []

  -- the rows of the games that are wanted and visit the position, of games of which the first has
  -- this number
  unfoldable pub rows_kept : (Classes → Bool) → ℕ → List GameAt → List NumberedRow
  rows_kept wanted number [] = []
  rows_kept wanted number (game ∷ games) =
      rows_by (wanted game.classes) number game.classes game.visit
      ++ rows_kept wanted (number + 1) games

-- a game that goes on, as a row lists it by its month
abbrev pub entry_of : NumberedGame → Entry
entry_of game = record { rank = month_number game.classes.month; number = game.number }

-- ---- the games of a player, by their numbers

-- the query takes the mode, the speed, the group and the month
unfoldable pub is_taken : PlayerQuery → Classes → Bool
is_taken q classes =
    slice_index_or q.modes (mode_index classes.mode) false && passes q.query.filter classes

-- the rating of the player's opponent
abbrev pub opponent_rating : PlayerQuery → Classes → ℕ
opponent_rating q = rating_of (opponent q.color)

module _ (q : PlayerQuery) (key : List ℕ) where
  abbrev pub rows_of_game : ℕ → Option GameAt → List NumberedRow
  rows_of_game number None = []
  rows_of_game number (Some game) =
      rows_by (opponent_rating q) key (is_taken q game.classes) number game.classes game.visit

  -- the rows of the games of these numbers that the query takes, one after another
  abbrev pub rows_of_numbers : List GameAt → List ℕ → List NumberedRow
  rows_of_numbers games numbers =
      flat_map (λ number. rows_of_game number (slice_get games number)) numbers

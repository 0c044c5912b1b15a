-- Statement: rows, alone and put together.
use Rattle.std.specs.Prelude.{ℕ, ◌+◌, ◌*◌, ◌<◌, ◌^◌, Bool, true, false, cond, if◌then◌else◌, List, [], ◌∷◌, ◌++◌, is_some, map}
use Rattle.explorer_model.specs.Best.{best}
use Rattle.best_lists.specs.Entry.{moved_by}
use Rattle.best_lists.specs.declared.entry.Entry.{Entry}
use Rattle.best_lists.specs.Ranking.{before_by_rating, before_by_month}
use Rattle.explorer_model.specs.declared.archive.Outcome.{Outcome}
use Rattle.explorer_model.specs.declared.archive.Outcome.TheVariants as outcomes
use Rattle.explorer_model.specs.Counting.{month_number}
use Rattle.tally_rows.specs.declared.row_key.RowKey.{RowKey}
use Rattle.tally_rows.specs.RowKey.{same_row_key}
use Rattle.tally_rows.specs.declared.row.Row.{Row}
use Rattle.tally_rows.specs.declared.single.Single.{Single}

-- what the games of a row have in common
abbrev pub row_key_of : Row → RowKey
row_key_of row =
    record {
      key = row.key;
      next = row.next;
      month = row.month;
      speed = row.speed;
      group = row.group;
    }

abbrev pub is_white : Outcome → Bool
is_white outcomes.White = true
is_white _ = false

abbrev pub is_draw : Outcome → Bool
is_draw outcomes.Draw = true
is_draw _ = false

abbrev pub is_black : Outcome → Bool
is_black outcomes.Black = true
is_black _ = false

-- the game of a single as it is listed, where a move follows
abbrev pub rating_entries : Single → List Entry
rating_entries single =
    cond (is_some single.row_key.next) (record { rank = single.sum; number = single.number }
    ∷ []) []

abbrev pub month_entries : Single → List Entry
month_entries single =
    cond (is_some single.row_key.next)
    (record { rank = month_number single.row_key.month; number = single.number } ∷ []) []

-- the row of one game
unfoldable pub row_of : Single → Row
row_of single =
    record {
      key = single.row_key.key;
      next = single.row_key.next;
      month = single.row_key.month;
      speed = single.row_key.speed;
      group = single.row_key.group;
      white = cond (is_white single.outcome) 1 0;
      draws = cond (is_draw single.outcome) 1 0;
      black = cond (is_black single.outcome) 1 0;
      ratings = cond (is_some single.row_key.next) single.rating 0;
      top = rating_entries single;
      recent = month_entries single;
    }

-- the sums and the best games of two rows with the parts of the first
unfoldable pub combined : Row → Row → Row
combined a b = record a {
  white = a.white + b.white;
  draws = a.draws + b.draws;
  black = a.black + b.black;
  ratings = a.ratings + b.ratings;
  top = best before_by_rating 4 (a.top ++ b.top);
  recent = best before_by_month 4 (a.recent ++ b.recent);
}

-- the sums of two rows have room
pub record Fit (a b : Row) : Type 0 where
  pub white : a.white + b.white < 2 ^ 32
  pub draws : a.draws + b.draws < 2 ^ 32
  pub black : a.black + b.black < 2 ^ 32
  pub ratings : a.ratings + b.ratings < 2 ^ 64

-- one game more has room in the sums of a row
pub record HasRoomForOne (row : Row) : Type 0 where
  pub white : row.white + 1 < 2 ^ 32
  pub draws : row.draws + 1 < 2 ^ 32
  pub black : row.black + 1 < 2 ^ 32
  pub ratings : row.ratings + 2 ^ 16 < 2 ^ 64

-- the same row of games that stand later in the list of games
unfoldable pub shifted_row : ℕ → Row → Row
shifted_row by row =
    record row { top = map (moved_by by) row.top; recent = map (moved_by by) row.recent }

-- rows in a row, those with the same parts that stand next to each other put together
unfoldable pub combined_from : Row → List Row → List Row
combined_from last [] = last ∷ []
combined_from last (row ∷ rows) =
    if same_row_key (row_key_of last) (row_key_of row) then combined_from (combined last row) rows
    else last ∷ combined_from row rows

unfoldable pub combined_rows : List Row → List Row
combined_rows [] = []
combined_rows (row ∷ rows) = combined_from row rows

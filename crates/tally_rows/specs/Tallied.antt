-- Statement: rows that are tallied for a list of games.
use Rattle.std.specs.Prelude.{◌≡◌, ℕ, ◌+◌, ◌%◌, Bool, true, ◌&&◌, ◌==◌, cond, List, map, slice_index, is_some}
use Rattle.std.specs.List.{All, Any, Contains, filter, count_by, sum_by, enumerate_from}
use Rattle.std.specs.List.Sorted.{IsStrictlySortedBy}
use Rattle.explorer_model.specs.Best.{best}
use Rattle.best_lists.specs.Ranking.{before_by_rating, before_by_month}
use Rattle.best_lists.specs.declared.entry.Entry.{Entry}
use Rattle.explorer_model.specs.declared.archive.Classes.{Classes}
use Rattle.explorer_model.specs.Counting.{month_number}
use Rattle.tally_rows.specs.declared.row_key.RowKey.{RowKey}
use Rattle.tally_rows.specs.declared.row.Row.{Row}
use Rattle.tally_rows.specs.RowKey.{row_order}
use Rattle.tally_rows.specs.Track.{Track, has}
use Rattle.tally_rows.specs.Row.{row_key_of, is_white, is_draw, is_black}

-- bit 0 of the key's byte of state
abbrev pub is_black_to_move : List ℕ → Bool
is_black_to_move key = (slice_index key 32 % 2) == 1

-- the rating of the side to move in the position of a key
abbrev pub mover_rating : List ℕ → Classes → ℕ
mover_rating key classes = cond (is_black_to_move key) classes.black.rating classes.white.rating

abbrev pub rating_sum : Track → ℕ
rating_sum track = track.classes.white.rating + track.classes.black.rating

abbrev pub track_month : Track → ℕ
track_month track = month_number track.classes.month

-- the games that pass a test, with their places from a first one on
unfoldable pub entries : (Track → ℕ) → (Track → Bool) → ℕ → List Track → List Entry
entries rank test first tracks =
    map (λ p. record { rank = rank p.1; number = p.0 })
    (filter (λ p. test p.1) (enumerate_from first tracks))

-- whether the game has the parts, and a move among them
abbrev pub has_move : RowKey → Track → Bool
has_move row_key track = is_some row_key.next && has row_key track

-- the row counts the games that have its parts
pub record IsTally (tracks : List Track) (row : Row) : Type 0 where
  pub white : row.white
      ≡ count_by (λ t. has (row_key_of row) t && is_white t.classes.outcome) tracks
  pub draws : row.draws ≡ count_by (λ t. has (row_key_of row) t && is_draw t.classes.outcome) tracks
  pub black : row.black
      ≡ count_by (λ t. has (row_key_of row) t && is_black t.classes.outcome) tracks
  pub ratings : row.ratings
      ≡ sum_by (λ t. cond (has_move (row_key_of row) t) (mover_rating row.key t.classes) 0) tracks
  pub top : row.top
      ≡ best before_by_rating 4 (entries rating_sum (has_move (row_key_of row)) 0 tracks)
  pub recent : row.recent
      ≡ best before_by_month 4 (entries track_month (has_move (row_key_of row)) 0 tracks)

-- exactly one row for each five parts that some game has, and no other
pub record Tallied (tracks : List Track) (rows : List Row) : Type 0 where
  pub each : All (IsTally tracks) rows
  pub some : All (λ row. Any (λ t. has (row_key_of row) t ≡ true) tracks) rows
  pub every : (row_key : RowKey) → Any (λ t. has row_key t ≡ true) tracks
      → Contains (map row_key_of rows) row_key
  pub ordered : IsStrictlySortedBy row_order (map row_key_of rows)

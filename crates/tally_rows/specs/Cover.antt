-- Statement: what the rows of a cover say of a position. A cover is a list of lists of games; all
-- its games stand one after another.
use Rattle.std.specs.Prelude.{◌≡◌, ℕ, ◌≤◌, Bool, true, false, ◌&&◌, ◌||◌, ◌==◌, nat_lt, if◌then◌else◌, List, [], ◌∷◌, map, filter, filter_map, take, length, slice_index_or, Option, Some, None, option_and_then}
use Rattle.std.specs.List.{All, sum_by, flat_map, slice_get}
use Rattle.std.specs.Ordering.{nat_cmp, is_lt}
use Rattle.std.specs.Cmp.Lexicographic.{slice_cmp}
use Rattle.explorer_model.specs.Best.{best}
use Rattle.best_lists.specs.Ranking as entry_order
use Rattle.best_lists.specs.declared.entry.Entry.{Entry}
use Rattle.explorer_model.specs.declared.answer.Listed.{Listed}
use Rattle.explorer_model.specs.declared.answer.MonthLine.{MonthLine}
use Rattle.explorer_model.specs.declared.answer.Totals.{Totals}
use Rattle.explorer_model.specs.declared.archive.Month.{Month}
use Rattle.explorer_model.specs.declared.chess.Color.{Color}
use Rattle.explorer_model.specs.declared.chess.Color.TheVariants.{White, Black}
use Rattle.explorer_model.specs.declared.chess.Move.{Move}
use Rattle.explorer_model.specs.declared.query.Filter.{Filter}
use Rattle.explorer_model.specs.Counting.{passes, rating_of, group_place, is_since, is_until, counts, any_next, is_move, is_same_move, is_same_month, is_in_month, totals_of, total, rating_sum, distinct, first_moves, game_of_move, games_by, before_by_rating, before_by_month, before_in_time}
use Rattle.explorer_model.specs.Finds.{history_of}
use Rattle.explorer_model.specs.Order.{speed_index}
use Rattle.explorer_model.specs.SoundClasses.{IsMonth}
use Rattle.explorer_model.specs.Uci.{uci_text}
use Rattle.explorer_model.specs.Visits.{GameAt}
use Rattle.tally_rows.specs.declared.row_key.RowKey.{RowKey}
use Rattle.tally_rows.specs.declared.row.Row.{Row}
use Rattle.tally_rows.specs.Recount.{all_of, picks, picked_sum, cover_lists}
use Rattle.tally_rows.specs.Tallied.{is_black_to_move}
use Rattle.tally_rows.specs.Track.{Track, visit}

-- ---- games

-- a game as it is seen from the position of a key
abbrev pub game_at : List ℕ → Track → GameAt
game_at key track = record { classes = track.classes; visit = visit key track }

-- who is to move in the position of a key
abbrev pub turn_of : List ℕ → Color
turn_of key = if is_black_to_move key then Black else White

abbrev pub listed_by : Option (Option Move) → Track → Option Listed
listed_by (Some (Some next)) track = Some (record { next = next; classes = track.classes })
listed_by _ track = None

-- the game of an entry, with the move that it plays in the position
abbrev pub listing : List ℕ → List Track → Entry → Option Listed
listing key tracks entry =
    option_and_then (λ track. listed_by (visit key track) track) (slice_get tracks entry.number)

-- the entry of a list that has just one
abbrev pub only_entry : List Entry → Option Entry
only_entry (entry ∷ []) = Some entry
only_entry _ = None

-- ---- which rows

-- the speed, the group and the month are among those that the filter takes
unfoldable pub passes_row_key : Filter → RowKey → Bool
passes_row_key wanted row_key =
    slice_index_or wanted.speeds (speed_index row_key.speed) false
    && slice_index_or wanted.groups (group_place row_key.group.value) false
    && is_since wanted.since row_key.month
    && is_until wanted.until row_key.month

-- and what follows meets a test
abbrev pub meets : Filter → (Option Move → Bool) → RowKey → Bool
meets wanted test row_key = passes_row_key wanted row_key && test row_key.next

-- and they are of a month
abbrev pub meets_in : Month → Filter → RowKey → Bool
meets_in month wanted row_key = passes_row_key wanted row_key && is_same_month month row_key.month

-- ---- what the rows give

module _ (key : List ℕ) (tallies : List (List Row)) where
  abbrev pub rows_totals : (RowKey → Bool) → Totals
  rows_totals pick = record {
    white = sum_by (picked_sum key pick (λ row. row.white)) tallies;
    draws = sum_by (picked_sum key pick (λ row. row.draws)) tallies;
    black = sum_by (picked_sum key pick (λ row. row.black)) tallies;
  }

  abbrev pub rows_ratings : (RowKey → Bool) → ℕ
  rows_ratings pick = sum_by (picked_sum key pick (λ row. row.ratings)) tallies

  -- the moves of the rows that pass the filter, each once
  unfoldable pub rows_moves : Filter → List Move
  rows_moves wanted =
      distinct is_same_move
      (filter_map (λ row. if picks key (meets wanted any_next) row then row.next else None)
      (all_of tallies))

  -- the greater total first, then the lesser text of UCI
  abbrev pub rows_before : Filter → Move → Move → Bool
  rows_before wanted a b =
      let of_a = total (rows_totals (meets wanted (is_move a))) in
      let of_b = total (rows_totals (meets wanted (is_move b))) in
      nat_lt of_b of_a || ((of_a == of_b) && is_lt (slice_cmp nat_cmp (uci_text a) (uci_text b)))

  -- the months of these rows, each once
  unfoldable pub rows_months : Filter → List Month
  rows_months wanted =
      distinct is_same_month
      (map (λ row. row.month) (filter (picks key (meets wanted any_next)) (all_of tallies)))

  abbrev pub rows_month_line : Filter → Month → MonthLine
  rows_month_line wanted month =
      record { month = month; totals = rows_totals (meets_in month wanted) }

-- what all games of a cover say of a position, in the words of the answer, is what its rows give
pub record Recounts (key : List ℕ) (wanted : Filter) (cover : List (List Track))
    (tallies : List (List Row)) : Type 0 where
  pub totals : (test : Option Move → Bool)
      → totals_of (counts test (passes wanted)) (map (game_at key) (all_of cover))
      ≡ rows_totals key tallies (meets wanted test)
  pub ratings : (m : Move)
      → rating_sum (rating_of (turn_of key)) (counts (is_move m) (passes wanted))
      (map (game_at key) (all_of cover)) ≡ rows_ratings key tallies (meets wanted (is_move m))
  pub moves : (most : ℕ)
      → first_moves most (passes wanted) (map (game_at key) (all_of cover))
      ≡ best (rows_before key tallies wanted) most (rows_moves key tallies wanted)
  pub only_game : (m : Move)
      → game_of_move m (passes wanted) (map (game_at key) (all_of cover))
      ≡ option_and_then (listing key (all_of cover))
      (only_entry (best entry_order.before_by_rating 4
      (cover_lists key (meets wanted (is_move m)) (λ row. row.top) 0 cover tallies)))
  pub top : (most : ℕ) → most ≤ 4
      → map Some (games_by before_by_rating most (passes wanted) (map (game_at key) (all_of cover)))
      ≡ map (listing key (all_of cover))
      (take most
      (best entry_order.before_by_rating 4
      (cover_lists key (meets wanted any_next) (λ row. row.top) 0 cover tallies)))
  pub recent : (most : ℕ) → most ≤ 4
      → map Some (games_by before_by_month most (passes wanted) (map (game_at key) (all_of cover)))
      ≡ map (listing key (all_of cover))
      (take most
      (best entry_order.before_by_month 4
      (cover_lists key (meets wanted any_next) (λ row. row.recent) 0 cover tallies)))
  pub month : (month : Month)
      → totals_of (is_in_month month (passes wanted)) (map (game_at key) (all_of cover))
      ≡ rows_totals key tallies (meets_in month wanted)
  pub history : All (λ track. IsMonth track.classes.month) (all_of cover)
      → history_of true (passes wanted) (map (game_at key) (all_of cover))
      ≡ (let months = rows_months key tallies wanted in Some
      (map (rows_month_line key tallies wanted) (best before_in_time (length months) months)))

-- the best games of the position are the best of those of each of its moves
pub record JoinsMoves (key : List ℕ) (wanted : Filter) (cover : List (List Track))
    (tallies : List (List Row)) : Type 0 where
  pub top : best entry_order.before_by_rating 4
      (flat_map (λ m. best entry_order.before_by_rating 4
      (cover_lists key (meets wanted (is_move m)) (λ row. row.top) 0 cover tallies))
      (rows_moves key tallies wanted))
      ≡ best entry_order.before_by_rating 4
      (cover_lists key (meets wanted any_next) (λ row. row.top) 0 cover tallies)
  pub recent : best entry_order.before_by_month 4
      (flat_map (λ m. best entry_order.before_by_month 4
      (cover_lists key (meets wanted (is_move m)) (λ row. row.recent) 0 cover tallies))
      (rows_moves key tallies wanted))
      ≡ best entry_order.before_by_month 4
      (cover_lists key (meets wanted any_next) (λ row. row.recent) 0 cover tallies)

-- Bridge: what rows of a position add up to.
use Rattle.std.specs.Prelude.{ℕ, Bool, cond, nat_lt, ◌==◌, ◌||◌, ◌&&◌, List, [], map, filter_map, length}
use Rattle.std.specs.List.{sum_by, flat_map}
use Rattle.std.specs.Ordering.{nat_cmp, is_lt}
use Rattle.std.specs.Cmp.Lexicographic.{slice_cmp}
use Rattle.best_lists.specs.Entry.{moved_by}
use Rattle.best_lists.specs.Ranking.{before_by_rating, before_by_month}
use Rattle.best_lists.specs.declared.entry.Entry.{Entry}
use Rattle.explorer_model.specs.declared.answer.MonthLine.{MonthLine}
use Rattle.explorer_model.specs.declared.answer.Totals.{Totals}
use Rattle.explorer_model.specs.declared.archive.Month.{Month}
use Rattle.explorer_model.specs.declared.chess.Move.{Move}
use Rattle.explorer_model.specs.Best.{best}
use Rattle.explorer_model.specs.Counting.{any_next, is_move, is_same_move, is_same_month, distinct, total, before_in_time}
use Rattle.explorer_model.specs.Uci.{uci_text}
use Rattle.row_sums.specs.Hits.{NumberedRow}
use Rattle.tally_rows.specs.declared.row.Row.{Row}

-- ---- tests of rows

abbrev pub any_row : Row → Bool
any_row row = any_next row.next

-- the move is played in the row's games
abbrev pub plays : Move → Row → Bool
plays m row = is_move m row.next

-- the row's games are of the month
abbrev pub is_of_month : Month → Row → Bool
is_of_month month row = is_same_month month row.month

-- ---- sums over the rows that pass a test

module _ (hits : List NumberedRow) where
  unfoldable pub sum_where : (Row → Bool) → (Row → ℕ) → ℕ
  sum_where test count = sum_by (λ hit. cond (test hit.row) (count hit.row) 0) hits

  abbrev pub totals_where : (Row → Bool) → Totals
  totals_where test = record {
    white = sum_where test (λ row. row.white);
    draws = sum_where test (λ row. row.draws);
    black = sum_where test (λ row. row.black);
  }

  abbrev pub ratings_where : (Row → Bool) → ℕ
  ratings_where test = sum_where test (λ row. row.ratings)

  -- the lists of these rows one after another, by the numbers of the games among all games
  unfoldable pub entries_where : (Row → Bool) → (Row → List Entry) → List Entry
  entries_where test list =
      flat_map (λ hit. cond (test hit.row) (map (moved_by hit.first) (list hit.row)) []) hits

  abbrev pub top_where : (Row → Bool) → List Entry
  top_where test = best before_by_rating 4 (entries_where test (λ row. row.top))

  abbrev pub recent_where : (Row → Bool) → List Entry
  recent_where test = best before_by_month 4 (entries_where test (λ row. row.recent))

  -- the moves of the rows, each once
  unfoldable pub moves_in : List Move
  moves_in = distinct is_same_move (filter_map (λ hit. hit.row.next) hits)

  -- the greater total first, then the lesser text of UCI
  abbrev pub before_by_total : Move → Move → Bool
  before_by_total a b =
      let of_a = total (totals_where (plays a)) in
      let of_b = total (totals_where (plays b)) in
      nat_lt of_b of_a || ((of_a == of_b) && is_lt (slice_cmp nat_cmp (uci_text a) (uci_text b)))

  -- the months of the rows, each once
  unfoldable pub months_in : List Month
  months_in = distinct is_same_month (map (λ hit. hit.row.month) hits)

  abbrev pub month_line : Month → MonthLine
  month_line month = record { month = month; totals = totals_where (is_of_month month) }

  -- a line for each month, ascending
  abbrev pub history_in : List MonthLine
  history_in = map month_line (best before_in_time (length months_in) months_in)

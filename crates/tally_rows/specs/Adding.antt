-- Bridge: rows as what they add up to at each five parts, whether or not these stand in one row.
use Rattle.std.specs.Prelude.{◌≡◌, ℕ, ◌+◌, ◌<◌, cond, List, []}
use Rattle.std.specs.List.{sum_by, flat_map}
use Rattle.explorer_model.specs.Best.{best}
use Rattle.best_lists.specs.Ranking.{before_by_rating, before_by_month}
use Rattle.best_lists.specs.declared.entry.Entry.{Entry}
use Rattle.tally_rows.specs.declared.row_key.RowKey.{RowKey}
use Rattle.tally_rows.specs.declared.row.Row.{Row}
use Rattle.tally_rows.specs.RowKey.{same_row_key}
use Rattle.tally_rows.specs.Row.{row_key_of}

-- the sum of a count over the rows that have the parts
abbrev pub sum_at : (Row → ℕ) → RowKey → List Row → ℕ
sum_at count row_key rows =
    sum_by (λ row. cond (same_row_key row_key (row_key_of row)) (count row) 0) rows

-- the lists of the rows that have the parts, one after another
abbrev pub listed_at : (Row → List Entry) → RowKey → List Row → List Entry
listed_at list row_key rows =
    flat_map (λ row. cond (same_row_key row_key (row_key_of row)) (list row) []) rows

-- two lists of rows have the same at the parts
pub record SameAt (xs ys : List Row) (row_key : RowKey) : Type 0 where
  pub white : sum_at (λ row. row.white) row_key xs ≡ sum_at (λ row. row.white) row_key ys
  pub draws : sum_at (λ row. row.draws) row_key xs ≡ sum_at (λ row. row.draws) row_key ys
  pub black : sum_at (λ row. row.black) row_key xs ≡ sum_at (λ row. row.black) row_key ys
  pub ratings : sum_at (λ row. row.ratings) row_key xs ≡ sum_at (λ row. row.ratings) row_key ys
  pub top : best before_by_rating 4 (listed_at (λ row. row.top) row_key xs)
      ≡ best before_by_rating 4 (listed_at (λ row. row.top) row_key ys)
  pub recent : best before_by_month 4 (listed_at (λ row. row.recent) row_key xs)
      ≡ best before_by_month 4 (listed_at (λ row. row.recent) row_key ys)

-- the row counts some game, and its lists are their own best
pub record IsSound (row : Row) : Type 0 where
  pub some : 0 < row.white + row.draws + row.black
  pub top : best before_by_rating 4 row.top ≡ row.top
  pub recent : best before_by_month 4 row.recent ≡ row.recent

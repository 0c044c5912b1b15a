-- Bridge: rows that have room for greater numbers and sums.
use Rattle.std.specs.Prelude.{ℕ, ◌+◌, ◌<◌, ◌^◌}
use Rattle.std.specs.List.{All}
use Rattle.tally_rows.specs.declared.row.Row.{Row}

-- the sums of two such rows have room
pub record IsSmall (row : Row) : Type 0 where
  pub white : row.white < 2 ^ 31
  pub draws : row.draws < 2 ^ 31
  pub black : row.black < 2 ^ 31
  pub ratings : row.ratings < 2 ^ 63

-- so have numbers that are greater by so much
pub record HasRoom (by : ℕ) (row : Row) : Type 0 where
  pub small : IsSmall row
  pub top : All (λ entry. entry.number + by < 2 ^ 32) row.top
  pub recent : All (λ entry. entry.number + by < 2 ^ 32) row.recent

-- Statement: sums of rows by speed and group: a line of cells for each speed, a cell of it for each
-- group.
use Rattle.std.specs.Prelude.{◌≡◌, ℕ, ◌+◌, ◌<◌, ◌^◌, Bool, List, [], length, replicate, slice_set, slice_index_or}
use Rattle.std.specs.List.{All, sum_by, flat_map, items_where_true}
use Rattle.tally_rows.specs.declared.grid.Cell.{Cell}
use Rattle.tally_rows.specs.declared.row.Row.{Row}

-- as many lines and cells as there are speeds and groups
pub record IsShaped (speeds groups : ℕ) (grid : List (List Cell)) : Type 0 where
  pub lines : length grid ≡ speeds
  pub cells : All (λ line. length line ≡ groups) grid

-- nothing counted
abbrev pub no_games : Cell
no_games = record { totals = record { white = 0; draws = 0; black = 0 }; ratings = 0 }

abbrev pub zeros : ℕ → ℕ → List (List Cell)
zeros speeds groups = replicate speeds (replicate groups no_games)

-- the sums of two cells
unfoldable pub plus : Cell → Cell → Cell
plus a b = record {
  totals = record {
    white = a.totals.white + b.totals.white;
    draws = a.totals.draws + b.totals.draws;
    black = a.totals.black + b.totals.black;
  };
  ratings = a.ratings + b.ratings;
}

-- these sums have room
pub record Fit (a b : Cell) : Type 0 where
  pub white : a.totals.white + b.totals.white < 2 ^ 64
  pub draws : a.totals.draws + b.totals.draws < 2 ^ 64
  pub black : a.totals.black + b.totals.black < 2 ^ 64
  pub ratings : a.ratings + b.ratings < 2 ^ 64

-- a row as a cell
abbrev pub cell_of : Row → Cell
cell_of row =
    record {
      totals = record { white = row.white; draws = row.draws; black = row.black };
      ratings = row.ratings;
    }

abbrev pub cell_at : List (List Cell) → ℕ → ℕ → Cell
cell_at grid speed group = slice_index_or (slice_index_or grid speed []) group no_games

-- the grid with a row in the sum of one cell
unfoldable pub added : List (List Cell) → ℕ → ℕ → Row → List (List Cell)
added grid speed group row =
    slice_set grid speed
    (slice_set (slice_index_or grid speed []) group
    (plus (cell_at grid speed group) (cell_of row)))

-- the cells whose speed and group are chosen
abbrev pub chosen : List Bool → List Bool → List (List Cell) → List Cell
chosen speeds groups grid =
    flat_map (λ line. items_where_true groups line) (items_where_true speeds grid)

-- the sums over cells
unfoldable pub total : List Cell → Cell
total cells = record {
  totals = record {
    white = sum_by (λ cell. cell.totals.white) cells;
    draws = sum_by (λ cell. cell.totals.draws) cells;
    black = sum_by (λ cell. cell.totals.black) cells;
  };
  ratings = sum_by (λ cell. cell.ratings) cells;
}

-- these sums have room
pub record HasRoom (cells : List Cell) : Type 0 where
  pub white : sum_by (λ cell. cell.totals.white) cells < 2 ^ 64
  pub draws : sum_by (λ cell. cell.totals.draws) cells < 2 ^ 64
  pub black : sum_by (λ cell. cell.totals.black) cells < 2 ^ 64
  pub ratings : sum_by (λ cell. cell.ratings) cells < 2 ^ 64

-- Bridge: a row that one side of a merge gives.
use Rattle.std.specs.Prelude.{◌≡◌, List, ◌++◌, take, drop}
use Rattle.tally_rows.specs.declared.row.Row.{Row}

-- the next row of a side, where there is one, now stands behind others
pub record HasPushed (side rest rows new : List Row) : Type 0 where
  pub left : rest ≡ drop 1 side
  pub behind : new ≡ rows ++ take 1 side

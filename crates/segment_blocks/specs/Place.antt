-- Bridge: places in blocks.
use Rattle.std.specs.Prelude.{◌≡◌, ℕ, List, ◌∷◌, IsTrue}
use Rattle.tally_rows.specs.declared.row.Row.{Row}
use Rattle.segment_blocks.specs.Encoded.{rows_behind, IsFilled, HasOwnKey}
use Rattle.segment_blocks.specs.declared.block_cursor.Place.{Place}
use Rattle.segment_blocks.specs.declared.mark.Mark.{Mark}
use Rattle.segment_blocks.specs.Prefix.{TellShared, TellSharedBehind}

-- the rows from a place on
abbrev pub rows_left : Place → List Row
rows_left place = rows_behind place.marks.now place.before place.tails.now place.whole.now

-- a place in filled rows, where the key may be known to be that of the first row
pub record IsPlace (place : Place) : Type 0 where
  pub filled : IsFilled place.marks.now place.tails.now place.whole.now
  pub own : IsTrue place.is_own → HasOwnKey place.before (rows_left place)
  pub told : TellSharedBehind place.marks.now (rows_left place)

-- a place behind a key, of which the next mark tells how many bytes its key has in common with it
pub record IsBehind (key : List ℕ) (place : Place) : Type 0 where
  pub before : place.before ≡ key
  pub told : TellShared key place.marks.now (rows_left place)

-- so many bytes the key of the first of some marks has in common with the one before it
pub record IsNextShared (shared : ℕ) (marks : List Mark) : Type 0 where
  pub mark : Mark
  pub rest : List Mark
  pub is : marks ≡ mark ∷ rest
  pub told : shared ≡ mark.shared

-- Bridge: rows of two walks that move behind others, the lesser one first.
use Rattle.std.specs.Prelude.{◌≡◌, ⊤, ℕ, ◌+◌, ◌≤◌, true, List, [], ◌∷◌, ◌++◌, length}
use Rattle.std.specs.Ordering.{is_lt}
use Rattle.tally_rows.specs.declared.row.Row.{Row}
use Rattle.tally_rows.specs.RowKey.{row_order}
use Rattle.tally_rows.specs.Row.{row_key_of, shifted_row}
use Rattle.segment_blocks.specs.declared.block_cursor.Place.{Place}
use Rattle.segment_blocks.specs.declared.lane.Lanes.{Lanes}
use Rattle.segment_blocks.specs.declared.lane.Terms.{Terms}
use Rattle.segment_blocks.specs.declared.until.Until.{Until}
use Rattle.segment_blocks.specs.Block.{IsBlock}
use Rattle.segment_blocks.specs.Encoded.{Encoded, rows_of}
use Rattle.segment_blocks.specs.Moving.{IsLane, IsLeast}
use Rattle.segment_blocks.specs.PackedRows.{AreInOrder}
use Rattle.segment_blocks.specs.Walk.{rows_until}

-- the row stands before the first of others
abbrev pub IsBeforeFirst : Row → List Row → Type 0
IsBeforeFirst row [] = ⊤
IsBeforeFirst row (other ∷ others) = is_lt (row_order (row_key_of row) (row_key_of other)) ≡ true

-- of two lists it gives the lesser first row, with a greater number, and then what it gives of the
-- rest
pub record GivesLesser (left_by right_by : ℕ) (both : List Row → List Row → List Row) : Type 0 where
  pub left : (row : Row) (lefts rights : List Row) → IsBeforeFirst row rights
      → both (row ∷ lefts) rights ≡ shifted_row left_by row ∷ both lefts rights
  pub right : (lefts : List Row) (row : Row) (rights : List Row) → IsBeforeFirst row lefts
      → both lefts (row ∷ rights) ≡ shifted_row right_by row ∷ both lefts rights

-- The first rows of two walks, always the lesser one, now stand behind others, with greater
-- numbers; the rest of both walks is left.
pub record HaveBothMoved (left_by right_by : ℕ)
    (lefts left_rest rights right_rest rows new : List Row) : Type 0 where
  pub pushed : List Row
  pub behind : new ≡ rows ++ pushed
  pub left : List Row
  pub left_parts : lefts ≡ left ++ left_rest
  pub right : List Row
  pub right_parts : rights ≡ right ++ right_rest
  pub count : length pushed ≡ length left + length right
  pub first : (both : List Row → List Row → List Row) → GivesLesser left_by right_by both
      → both lefts rights ≡ pushed ++ both left_rest right_rest

-- rows of two walks may move behind others, all of which stand in order then
pub record MayBothMove (left_by right_by : ℕ) (lefts rights rows : List Row) : Type 0 where
  pub both : List Row → List Row → List Row
  pub gives : GivesLesser left_by right_by both
  pub ordered : AreInOrder (rows ++ both lefts rights)

-- ---- places

-- the same of walks that end so, whatever rows stand behind both places
abbrev pub MoveBoth : Until → Until → ℕ → ℕ → List Row → List Row → List Row → List Row
    → List Row → List Row → Type 0
MoveBoth left_until right_until left_by right_by lefts left_rest rights right_rest rows new =
    (left_more right_more : List Row) → HaveBothMoved left_by right_by
    (rows_until left_until (lefts ++ left_more)) (rows_until left_until (left_rest ++ left_more))
    (rows_until right_until (rights ++ right_more))
    (rows_until right_until (right_rest ++ right_more)) rows new

-- the next rows of two places can move so behind the last one
pub record AreLanes (last : List ℕ) (lanes : Lanes) (left right : Place) : Type 0 where
  pub first : IsLane last lanes.left left
  pub second : IsLane last lanes.right right

-- so can those of the walks of these terms
pub record AreLanesOf (last : List ℕ) (left_terms right_terms : Terms) (lanes : Lanes)
    (left right : Place) : Type 0 where
  pub are : AreLanes last lanes left right
  pub left_by : lanes.left.by ≡ left_terms.by
  pub right_by : lanes.right.by ≡ right_terms.by
  pub left_least : IsLeast left_terms.until.now last lanes.least
  pub right_least : IsLeast right_terms.until.now last lanes.least

pub record HaveSameTerms (lanes new : Lanes) : Type 0 where
  pub left_by : new.left.by ≡ lanes.left.by
  pub right_by : new.right.by ≡ lanes.right.by
  pub least : new.least ≡ lanes.least

-- at most the first row of both places has moved behind the rows of a block
pub record HasMovedFirst (first : List ℕ) (left_until right_until : Until) (lanes : Lanes)
    (new_last : List ℕ) (lefts left_rest rights right_rest : List Row)
    (rows new : Encoded) : Type 0 where
  pub block : IsBlock first new_last new
  pub left : IsLeast left_until new_last lanes.least
  pub right : IsLeast right_until new_last lanes.least
  pub few : length (rows_of new first) ≤ length (rows_of rows first) + 1
  pub both : MoveBoth left_until right_until lanes.left.by lanes.right.by
      lefts left_rest rights right_rest (rows_of rows first) (rows_of new first)

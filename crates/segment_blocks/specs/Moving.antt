-- Bridge: the next row of a place, as it moves behind others.
use Rattle.std.specs.Prelude.{◌≡◌, ⊤, ℕ, ◌<◌, Bool, IsTrue, true, false, Option, None, Some, Result, Ok, Err, List, [], ◌∷◌}
use Rattle.std.specs.Cmp.Lexicographic.{slice_cmp}
use Rattle.std.specs.Ordering.{nat_cmp, is_gt}
use Rattle.std.specs.declared.alloc.AllocError.{AllocError}
use Rattle.tally_rows.specs.declared.row.Row.{Row}
use Rattle.tally_rows.specs.declared.row_key.RowKey.{RowKey}
use Rattle.tally_rows.specs.Row.{row_key_of, shifted_row}
use Rattle.segment_blocks.specs.declared.block_cursor.Place.{Place}
use Rattle.segment_blocks.specs.declared.lane.Lane.{Lane}
use Rattle.segment_blocks.specs.declared.until.Until.{Until}
use Rattle.segment_blocks.specs.declared.until.Until.TheVariants.{End, Key, Below, Done}
use Rattle.segment_blocks.specs.Encoded.{Encoded, IsAppended}
use Rattle.segment_blocks.specs.Prefix.{common_len}

-- what the games of the first row have in common
abbrev pub next_row_key : List Row → Option RowKey
next_row_key [] = None
next_row_key (row ∷ rows) = Some (row_key_of row)

-- so many bytes a key has in common with the last one, before which it does not stand
pub record IsMet (last key : List ℕ) (shared : ℕ) : Type 0 where
  pub is : shared ≡ common_len last key
  pub not_before : is_gt (slice_cmp nat_cmp last key) ≡ false

-- the place has the key of the next row, which can move so behind the last one
pub record IsLane (last : List ℕ) (lane : Lane) (place : Place) : Type 0 where
  pub own : IsTrue place.is_own
  pub met : IsMet last place.before lane.shared

-- a walk that ends there goes over each row, not before the last one, whose key has so many bytes
-- in common with the last one
abbrev pub IsLeast : Until → List ℕ → ℕ → Type 0
IsLeast End last least = ⊤
IsLeast (Below key) last least =
    (common_len last key < least) × (is_gt (slice_cmp nat_cmp last key) ≡ false)
IsLeast (Key key) last least = ⊥
IsLeast Done last least = ⊥

-- the first row of a walk now stands behind others that end at a key, with a greater number
pub record HasMovedBehind (by : ℕ) (walk rest : List Row) (last new_last : List ℕ)
    (rows new : Encoded) : Type 0 where
  pub row : Row
  pub first : walk ≡ row ∷ rest
  pub appended : IsAppended last (shifted_row by row) rows new
  pub ends : new_last ≡ row.key

-- what holds where a call says so
abbrev pub IfOn : Result Bool AllocError → Type 0 → Type 0
IfOn (Ok true) on = on
IfOn (Ok false) on = ⊤
IfOn (Err e) on = ⊤

-- what holds where a call does not say so
abbrev pub IfOff : Result Bool AllocError → Type 0 → Type 0
IfOff (Ok true) off = ⊤
IfOff (Ok false) off = off
IfOff (Err e) off = off

-- Bridge: walks over rows: from a key on, and to the last row of a key.
use Rattle.std.specs.Prelude.{ℕ, Bool, true, not, ◌&&◌, if◌then◌else◌, List, [], ◌∷◌, Option, Some, None, bytes_eq}
use Rattle.std.specs.List.{flat_map}
use Rattle.std.specs.Ordering.{nat_cmp, is_lt}
use Rattle.std.specs.Cmp.Lexicographic.{slice_cmp}
use Rattle.tally_rows.specs.declared.row.Row.{Row}
use Rattle.segment_blocks.specs.declared.held_row.HeldRow.{HeldRow}
use Rattle.segment_blocks.specs.declared.until.Until.{Until}
use Rattle.segment_blocks.specs.declared.until.Until.TheVariants.{End, Key, Below, Done}
use Rattle.segment_blocks.specs.HeldRow.{row_in}

-- the row's key stands before this key
abbrev pub is_below : List ℕ → Row → Bool
is_below key row = is_lt (slice_cmp nat_cmp row.key key)

abbrev pub has_key : List ℕ → Row → Bool
has_key key row = bytes_eq row.key key

-- whether the row's key is not below the first key and is below the second, where there are such
abbrev pub is_from : Option (List ℕ) → Row → Bool
is_from None row = true
is_from (Some key) row = not (is_below key row)

abbrev pub is_before : Option (List ℕ) → Row → Bool
is_before None row = true
is_before (Some key) row = is_below key row

abbrev pub is_within : Option (List ℕ) → Option (List ℕ) → Row → Bool
is_within from below row = is_from from row && is_before below row

-- the rows of blocks, one block after another
abbrev pub rows_in : List (List Row) → List Row
rows_in blocks = flat_map (λ block. block) blocks

-- ---- how a walk goes

-- the rows from the first one on whose key is not below this key
unfoldable pub from_key : List ℕ → List Row → List Row
from_key key [] = []
from_key key (row ∷ rows) = if is_below key row then from_key key rows else row ∷ rows

-- the rows before the first one whose key is not below this key
unfoldable pub until_key : List ℕ → List Row → List Row
until_key key [] = []
until_key key (row ∷ rows) = if is_below key row then row ∷ until_key key rows else []

-- the rows from a key on, and those before one, where there is such a key
abbrev pub from_bound : Option (List ℕ) → List Row → List Row
from_bound None rows = rows
from_bound (Some key) rows = from_key key rows

abbrev pub until_bound : Option (List ℕ) → List Row → List Row
until_bound None rows = rows
until_bound (Some key) rows = until_key key rows

-- the rows up to the first one of another key
abbrev pub at_key : List ℕ → List Row → List Row
at_key key [] = []
at_key key (row ∷ rows) = if has_key key row then row ∷ at_key key rows else []

-- what a walk goes over, of the rows that are left
abbrev pub rows_until : Until → List Row → List Row
rows_until End rows = rows
rows_until (Key key) rows = at_key key rows
rows_until (Below key) rows = until_key key rows
rows_until Done rows = []

-- no row or one
abbrev pub front_rows : Option HeldRow → List Row
front_rows None = []
front_rows (Some held) = row_in held ∷ []

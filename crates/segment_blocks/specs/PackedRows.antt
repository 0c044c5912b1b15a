-- Bridge: rows in blocks.
use Rattle.std.specs.Prelude.{◌≡◌, ◌<◌, ◌≤◌, ◌*◌, ℕ, Bool, Some, List, [], ◌∷◌, map, length, slice_get}
use Rattle.std.specs.List.{AllByRecursion, flat_map}
use Rattle.std.specs.List.Sorted.{IsStrictlySortedBy}
use Rattle.std.specs.Ordering.{nat_cmp, is_lt}
use Rattle.std.specs.Cmp.Lexicographic.{slice_cmp}
use Rattle.tally_rows.specs.declared.row.Row.{Row}
use Rattle.tally_rows.specs.RowKey.{row_order}
use Rattle.tally_rows.specs.Row.{row_key_of}
use Rattle.segment_blocks.specs.Block.{block_limit}
use Rattle.segment_blocks.specs.Encoded.{key_first}
use Rattle.segment_blocks.specs.Walk.{rows_in}

-- rows, and how many blocks they take
pub record Packed : Type 0 where
  pub rows : List Row
  pub blocks : ℕ

-- each row stands before those behind it in the order of rows, so no two have one row key
abbrev pub AreInOrder : List Row → Type 0
AreInOrder rows = IsStrictlySortedBy row_order (map row_key_of rows)

-- the rows of parts, one part after another
abbrev pub rows_of_parts : List Packed → List Row
rows_of_parts parts = flat_map (λ part. part.rows) parts

-- There is a block `n`, and this is the key of its first row. Since each block has some row, at
-- least `n` rows stand before that one.
pub record IsFirstKey (rows : List Row) (blocks n : ℕ) (key : List ℕ) : Type 0 where
  pub inside : n < blocks
  pub place : ℕ
  pub behind : n ≤ place
  pub is : slice_get (map (λ row. row.key) rows) place ≡ Some key

-- so many blocks hold these rows, each of them 1 to 128
pub record AreBlocksOf (rows : List Row) (blocks : ℕ) : Type 0 where
  pub room : length rows ≤ block_limit * blocks
  pub some : blocks ≤ length rows

-- ---- how the rows are held

-- blocks of some rows each
abbrev pub AreSome : List (List Row) → Type 0
AreSome [] = Unit {0}
AreSome ([] ∷ blocks) = ⊥
AreSome ((row ∷ rows) ∷ blocks) = AreSome blocks

-- blocks of at most 128 rows each
abbrev pub AreFew : List (List Row) → Type 0
AreFew blocks = AllByRecursion (λ block. length block ≤ block_limit) blocks

-- blocks of 1 to 128 rows each, and all their rows in order
pub record ArePacked (blocks : List (List Row)) : Type 0 where
  pub some : AreSome blocks
  pub few : AreFew blocks
  pub ordered : AreInOrder (rows_in blocks)

-- whether the block begins with a key below this one
abbrev pub is_first_below : List ℕ → List Row → Bool
is_first_below key block = is_lt (slice_cmp nat_cmp (key_first [] block) key)

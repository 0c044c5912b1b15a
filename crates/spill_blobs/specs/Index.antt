-- Bridge: the index of a part as the first keys of its chunks of 128 rows, and where a walk begins.
use Rattle.std.specs.Prelude.{◌≡◌, ◌≤◌, ℕ, suc, true, false, cond, List, [], ◌∷◌, ◌++◌, length, map}
use Rattle.std.specs.List.{AllByRecursion}
use Rattle.std.specs.Ordering.{nat_cmp, is_gt}
use Rattle.std.specs.Cmp.Lexicographic.{slice_cmp}
use Rattle.tally_rows.specs.declared.row.Row.{Row}
use Rattle.segment_blocks.specs.Encoded.{key_first}
use Rattle.segment_blocks.specs.PackedRows.{AreSome}
use Rattle.segment_blocks.specs.Walk.{is_below, rows_in}

-- no key behind another one is less
abbrev pub AreRising : List (List ℕ) → Type 0
AreRising [] = Unit {0}
AreRising (key ∷ keys) =
    AllByRecursion (λ other. is_gt (slice_cmp nat_cmp key other) ≡ false) keys × AreRising keys

-- how many rows a chunk has
abbrev pub chunk_size : ℕ
chunk_size = 128

-- chunks of 128 rows, of which the last may have fewer
abbrev pub AreChunks : List (List Row) → Type 0
AreChunks [] = Unit {0}
AreChunks (chunk ∷ []) = length chunk ≤ chunk_size
AreChunks (chunk ∷ next ∷ chunks) = (length chunk ≡ chunk_size) × AreChunks (next ∷ chunks)

-- the keys are those of the first rows of chunks of the rows
pub record IsIndexOf (rows : List Row) (keys : List (List ℕ)) : Type 0 where
  pub chunks : List (List Row)
  pub are : rows ≡ rows_in chunks
  pub some : AreSome chunks
  pub full : AreChunks chunks
  pub firsts : keys ≡ map (key_first []) chunks

-- how many rows stand before the key
abbrev pub lesser : List ℕ → List Row → ℕ
lesser key [] = 0
lesser key (row ∷ rows) = cond (is_below key row) (suc (lesser key rows)) (lesser key rows)

-- Rows, cut where a walk to a key begins: the rows before stand before the key, and few are before
-- it from there on.
pub record Begins (key : List ℕ) (rows : List Row) (passed : ℕ) : Type 0 where
  pub front : List Row
  pub back : List Row
  pub are : rows ≡ front ++ back
  pub passed_is : passed ≡ length front
  pub before : AllByRecursion (λ row. is_below key row ≡ true) front
  pub few : lesser key back ≤ chunk_size

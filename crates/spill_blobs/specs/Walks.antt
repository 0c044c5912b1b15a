-- Statement: what a walk over blocks comes to that looks for the rows of a key.
use Rattle.std.specs.Prelude.{◌≡◌, ◌≤◌, ◌⊎◌, ℕ, zero, suc, ◌+◌, cond, List, [], ◌∷◌, ◌++◌, take, drop, bytes_eq, Option, Some, None}
use Rattle.std.specs.Option.{option_map}
use Rattle.std.specs.declared.cmp.Ordering.{Ordering}
use Rattle.std.specs.declared.cmp.Ordering.TheVariants.{Less, Equal, Greater}
use Rattle.std.specs.Ordering.{nat_cmp}
use Rattle.std.specs.Cmp.Lexicographic.{slice_cmp}
use Rattle.tally_rows.specs.declared.row.Row.{Row}
use Rattle.spill_blobs.specs.RowBlocks.{block_size, IsRowAt, IsBroken}

-- the most rows that a walk passes before the key
abbrev pub lesser_limit : ℕ
lesser_limit = 128

-- so many blocks of bytes that stand one after another, from a place on
abbrev pub blocks_from : List ℕ → ℕ → ℕ → List (List ℕ)
blocks_from bytes at zero = []
blocks_from bytes at (suc count) =
    take block_size (drop at bytes) ∷ blocks_from bytes (at + block_size) count

-- with more rows in front; None: it stops at what is damaged
abbrev pub behind_rows : List Row → Option (List Row) → Option (List Row)
behind_rows rows found = option_map (λ others. rows ++ others) found

-- where a row stands so to the key, and so many lesser ones may still be passed
abbrev pub GoesOn : Ordering → ℕ → Row → (ℕ → Option (List Row) → Type 0) → Option (List Row)
    → Type 0
GoesOn Less zero row Rest found = found ≡ None
GoesOn Less (suc more) row Rest found = Rest more found
GoesOn Equal more row Rest found =
    (others : Option (List Row)) × Rest more others × (found ≡ behind_rows (row ∷ []) others)
GoesOn Greater more row Rest found = found ≡ Some []

-- The rows of the key among the blocks, up to a row of a greater key. It stops at a block that is
-- no row, and at a row before the key that is one too many.
abbrev pub WalksTo : List ℕ → List (List ℕ) → ℕ → Option (List Row) → Type 0
WalksTo key [] more found = found ≡ Some []
WalksTo key (block ∷ blocks) more found =
    (IsBroken block × (found ≡ None))
    ⊎ ((row : Row) × IsRowAt block row
    × GoesOn (slice_cmp nat_cmp row.key key) more row (WalksTo key blocks) found)

-- how many blocks begin with the key
abbrev pub keyed : List ℕ → List (List ℕ) → ℕ
keyed key [] = 0
keyed key (block ∷ blocks) =
    cond (bytes_eq (take 34 block) key) (suc (keyed key blocks)) (keyed key blocks)

-- so many blocks that were read are rows before the key, blocks that begin with it, and one
abbrev pub AreRead : List ℕ → List (List ℕ) → ℕ → Type 0
AreRead key blocks read = read ≤ lesser_limit + keyed key (take read blocks) + 1

-- what the blocks left come to, with these rows in front, is what all blocks come to
abbrev pub Continues : List ℕ → List (List ℕ) → ℕ → List Row → List (List ℕ) → Type 0
Continues key left more rows all =
    (found : Option (List Row)) → WalksTo key left more found
    → WalksTo key all lesser_limit (behind_rows rows found)

-- How many of the blocks that were read begin with the key.
use Rattle.std.proofs.Common.{◌≡◌, ℕ, zero, suc, ◌+◌, ◌-◌, ◌*◌, ◌≤◌, ◌<◌, Bool, true, false, cond, ◌⊎◌, inl, inr, List, [], ◌∷◌, ◌++◌, length, take, drop, bytes_eq, Option, None, Some, refl, ap, ◌∙◌, subst, arith, append_assoc, length-append}
use Rattle.std.specs.Prelude.{IfSome}
use Rattle.std.specs.Cmp.Lexicographic.{bytes_decides}
use Rattle.std.specs.declared.cmp.Ordering.TheVariants.{Less, Equal}
use Rattle.std.proofs.lemmas.List.{take_at}
use Rattle.segment_blocks.proofs.KeyLemmas.{key_order}
use Rattle.outside.specs.Ports.{Scratch}
use Rattle.spill_blobs.specs.Ends.{Reads}
use Rattle.spill_blobs.specs.Judging.{part_blocks}
use Rattle.spill_blobs.specs.Marks.{place_in}
use Rattle.spill_blobs.specs.Parts.{Spilled}
use Rattle.tally_rows.specs.declared.row.Row.{Row}
use Rattle.tally_rows.specs.Row.{row_key_of}
use Rattle.spill_blobs.specs.RowBlocks.{block_size, IsRowAt}
use Rattle.spill_blobs.specs.Walks.{blocks_from, keyed, lesser_limit, AreRead}
use Rattle.spill_blobs.proofs.FoundLemmas.{less-has_not, same_key}
use Rattle.spill_blobs.proofs.RowLemmas.{as_parts, k1, rest_bytes}

-- a block begins with the key of its row
block-key : (block : List ℕ) (row : Row) → IsRowAt block row → take 34 block ≡ row.key
block-key block row is =
    ap (take 34) (is.bytes ∙ as_parts row ∙ append_assoc row.key (k1 (row_key_of row)) (rest_bytes row))
    ∙ take_at row.key (k1 (row_key_of row) ++ rest_bytes row) 34 is.writable.row_key.key

module _ (key : List ℕ) where
  -- one if a block begins with the key
  abbrev one : List ℕ → ℕ
  one block = cond (bytes_eq (take 34 block) key) 1 0

  keyed-cons : (block : List ℕ) (blocks : List (List ℕ)) → keyed key (block ∷ blocks) ≡ one block + keyed key blocks
  keyed-cons block blocks = by (bytes_eq (take 34 block) key)
    where
      by : (b : Bool) → cond b (suc (keyed key blocks)) (keyed key blocks) ≡ cond b 1 0 + keyed key blocks
      by true = omega arith
      by false = omega arith

  -- with one block more
  keyed-next : (bytes : List ℕ) (start count i at : ℕ) → i < count → at ≡ start + block_size * i
      → keyed key (take (suc i) (blocks_from bytes start count)) ≡ keyed key (take i (blocks_from bytes start count)) + one (take block_size (drop at bytes))
  keyed-next bytes start zero i at inside is = absurd (omega arith)
  keyed-next bytes start (suc count) zero at inside is =
      let place : start ≡ at = omega (arith, is) in
      omega (arith, keyed-cons (take block_size (drop start bytes)) [], ap (λ n. one (take block_size (drop n bytes))) place)
  keyed-next bytes start (suc count) (suc i) at inside is =
      let rest = keyed-next bytes (start + block_size) count i at (omega arith) (omega (arith, is)) in
      let block = take block_size (drop start bytes) in
      omega (
        arith,
        keyed-cons block (take (suc i) (blocks_from bytes (start + block_size) count)),
        keyed-cons block (take i (blocks_from bytes (start + block_size) count)),
        rest,
      )

  one-less : (block : List ℕ) (row : Row) → IsRowAt block row → key_order row.key key ≡ Less → one block ≡ 0
  one-less block row is less =
      ap (λ k. cond (bytes_eq k key) 1 0) (block-key block row is) ∙ ap (λ b. cond b 1 0) (less-has_not key row less)

  one-equal : (block : List ℕ) (row : Row) → IsRowAt block row → key_order row.key key ≡ Equal → one block ≡ 1
  one-equal block row is equal =
      ap (λ k. cond (bytes_eq k key) 1 0) (block-key block row is)
      ∙ ap (λ b. cond b 1 0) ((bytes_decides row.key key).1 (same_key key row.key equal))

  -- as a walk begins
  pub counted-start : (start count : ℕ) (told : Option (List ℕ)) → IfSome told (λ bytes. keyed key (take 0 (blocks_from bytes start count)) ≡ 0)
  counted-start start count None = tt
  counted-start start count (Some bytes) = refl

  module _ (start count at : ℕ) (row : Row) where
    pub counted-less : (told : Option (List ℕ)) (i next n : ℕ) → next ≡ suc i → i < count → at ≡ start + block_size * i
        → IfSome told (λ bytes. IsRowAt (take block_size (drop at bytes)) row) → key_order row.key key ≡ Less
        → IfSome told (λ bytes. keyed key (take i (blocks_from bytes start count)) ≡ n)
        → IfSome told (λ bytes. keyed key (take next (blocks_from bytes start count)) ≡ n)
    counted-less None i next n next_is inside place is less old = tt
    counted-less (Some bytes) i next n next_is inside place is less old =
        ap (λ m. keyed key (take m (blocks_from bytes start count))) next_is
        ∙ omega (arith, keyed-next bytes start count i at inside place, one-less (take block_size (drop at bytes)) row is less, old)

    pub counted-equal : (told : Option (List ℕ)) (lesser : ℕ) (rows new : List Row) → new ≡ rows ++ row ∷ [] → lesser + length rows < count
        → at ≡ start + block_size * (lesser + length rows) → IfSome told (λ bytes. IsRowAt (take block_size (drop at bytes)) row)
        → key_order row.key key ≡ Equal
        → IfSome told (λ bytes. keyed key (take (lesser + length rows) (blocks_from bytes start count)) ≡ length rows)
        → IfSome told (λ bytes. keyed key (take (lesser + length new) (blocks_from bytes start count)) ≡ length new)
    counted-equal None lesser rows new is inside place at_row equal old = tt
    counted-equal (Some bytes) lesser rows new is inside place at_row equal old =
        let size : length new ≡ suc (length rows) = ap length is ∙ omega (arith, length-append rows (row ∷ [])) in
        let next : lesser + length new ≡ suc (lesser + length rows) = omega (arith, size) in
        ap (λ m. keyed key (take m (blocks_from bytes start count))) next
        ∙ omega (arith, keyed-next bytes start count (lesser + length rows) at inside place, one-equal (take block_size (drop at bytes)) row at_row equal, old, size)

  -- ---- how many were read

  keyed-grows : (blocks : List (List ℕ)) (i : ℕ) → keyed key (take i blocks) ≤ keyed key (take (suc i) blocks)
  keyed-grows [] zero = omega arith
  keyed-grows [] (suc i) = omega arith
  keyed-grows (block ∷ blocks) zero = omega arith
  keyed-grows (block ∷ blocks) (suc i) =
      omega (arith, keyed-cons block (take i blocks), keyed-cons block (take (suc i) blocks), keyed-grows blocks i)

  -- those before, and perhaps one more
  are-read : (start count : ℕ) (told : Option (List ℕ)) (lesser n read : ℕ) → lesser ≤ lesser_limit → (read ≡ lesser + n) ⊎ (read ≡ suc (lesser + n))
      → IfSome told (λ bytes. keyed key (take (lesser + n) (blocks_from bytes start count)) ≡ n)
      → IfSome told (λ bytes. AreRead key (blocks_from bytes start count) read)
  are-read start count None lesser n read few is old = tt
  are-read start count (Some bytes) lesser n read few (inl is) old =
      let same = ap (λ m. keyed key (take m (blocks_from bytes start count))) is in
      omega (arith, same, old, is, few)
  are-read start count (Some bytes) lesser n read few (inr is) old =
      let same = ap (λ m. keyed key (take m (blocks_from bytes start count))) is in
      omega (arith, same, old, is, few, keyed-grows (blocks_from bytes start count) (lesser + n))

  module _ (start count : ℕ) (scratch : Scratch) (lesser n left before now : ℕ) (few : lesser ≤ lesser_limit) (passed : lesser + n + left ≡ count)
      (read : now + left ≡ before + count) where
    -- behind a last one that was asked for
    pub reads-last : (after : ℕ) → 0 < left → after ≡ now + 1 → IfSome scratch.appended (λ bytes. keyed key (take (lesser + n) (blocks_from bytes start count)) ≡ n)
        → Reads key (λ bytes. blocks_from bytes start count) count 0 scratch before after
    reads-last after some is old = record {
      read = suc (lesser + n);
      steps = omega (arith, is, read, passed);
      within = omega (arith, passed, some);
      told = are-read start count scratch.appended lesser n (suc (lesser + n)) few (inr refl) old;
    }

    pub reads-all : IfSome scratch.appended (λ bytes. keyed key (take (lesser + n) (blocks_from bytes start count)) ≡ n)
        → Reads key (λ bytes. blocks_from bytes start count) count 0 scratch before now
    reads-all old = record {
      read = lesser + n;
      steps = omega (arith, read, passed);
      within = omega (arith, passed);
      told = are-read start count scratch.appended lesser n (lesser + n) few (inl refl) old;
    }

-- behind other steps, where the walk begins
pub reads-from : (key : List ℕ) (start count passed place digits : ℕ) (scratch : Scratch) (before middle after : ℕ) → passed ≡ place → middle ≤ before + digits
    → Reads key (λ bytes. blocks_from bytes (start + block_size * passed) (count - passed)) (count - passed) 0 scratch middle after
    → Reads key (λ bytes. blocks_from bytes (start + block_size * place) (count - place)) count digits scratch before after
reads-from key start count passed place digits scratch before middle after is few reads = record {
  read = reads.read;
  steps = omega (arith, reads.steps, few);
  within = omega (arith, reads.within);
  told = subst (λ (p : ℕ). IfSome scratch.appended (λ bytes. AreRead key (blocks_from bytes (start + block_size * p) (count - p)) reads.read)) is reads.told;
}

-- of another key that is the same, and of the blocks of a part
pub reads-of : (key other : List ℕ) (part : Spilled) (digits : ℕ) (scratch : Scratch) (before after : ℕ) → part.count ≡ length part.segment.rows → key ≡ other
    → Reads key (λ bytes. blocks_from bytes (part.start + block_size * place_in key part.segment.rows) (part.count - place_in key part.segment.rows))
    part.count digits scratch before after
    → Reads other (part_blocks other part) (length part.segment.rows) digits scratch before after
reads-of key other part digits scratch before after count is reads = record {
  read = reads.read;
  steps = reads.steps;
  within = omega (arith, reads.within, count);
  told = subst (λ (k : List ℕ). IfSome scratch.appended (λ bytes. AreRead k (part_blocks k part bytes) reads.read)) is
      (subst (λ (n : ℕ). IfSome scratch.appended (λ bytes. AreRead key
      (blocks_from bytes (part.start + block_size * place_in key part.segment.rows) (n - place_in key part.segment.rows)) reads.read)) count reads.told);
}

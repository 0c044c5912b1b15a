-- Walks over blocks, block by block.
use Rattle.std.proofs.Common.{◌≡◌, inl, inr, ℕ, zero, suc, List, [], ◌∷◌, ◌++◌, Option, Some, None, refl, sym, ap, ◌∙◌, subst, append-nil, append_assoc, ◌+◌, length, take, drop}
use Rattle.std.specs.declared.cmp.Ordering.{Ordering}
use Rattle.std.specs.declared.cmp.Ordering.TheVariants.{Less, Equal, Greater}
use Rattle.std.specs.Ordering.{nat_cmp}
use Rattle.std.specs.Cmp.Lexicographic.{slice_cmp}
use Rattle.std.specs.Prelude.{IfSome, Err}
use Rattle.tally_rows.specs.declared.row.Row.{Row}
use Rattle.spill_blobs.specs.Ends.{ComesTo, FailsToRead, ReadsRow}
use Rattle.outside.specs.Ports.{Scratch}
use Rattle.spill_blobs.specs.RowBlocks.{IsRowAt, IsBroken, block_size}
use Rattle.spill_blobs.specs.Walks.{WalksTo, GoesOn, Continues, behind_rows, blocks_from, lesser_limit}
use Rattle.spill_blobs.specs.declared.walk_fault.WalkFault.{WalkFault}
use Rattle.spill_blobs.specs.declared.walk_fault.WalkFault.TheVariants.{ReadFault, Damaged, OutOfMemory}

abbrev key_order : List ℕ → List ℕ → Ordering
key_order = slice_cmp nat_cmp

module _ (key block : List ℕ) (blocks : List (List ℕ)) where
  goes : (o : Ordering) (row : Row) (more : ℕ) (found : Option (List Row)) → IsRowAt block row → key_order row.key key ≡ o
      → GoesOn o more row (WalksTo key blocks) found → WalksTo key (block ∷ blocks) more found
  goes o row more found is e h = inr (row, is, subst (λ (p : Ordering). GoesOn p more row (WalksTo key blocks) found) (sym e) h)

  pub walks-broken : (more : ℕ) → IsBroken block → WalksTo key (block ∷ blocks) more None
  walks-broken more h = inl (h, refl)

  pub walks-less : (row : Row) (more : ℕ) (found : Option (List Row)) → IsRowAt block row → key_order row.key key ≡ Less
      → WalksTo key blocks more found → WalksTo key (block ∷ blocks) (suc more) found
  walks-less row more found is e h = goes Less row (suc more) found is e h

  pub walks-too_many : (row : Row) → IsRowAt block row → key_order row.key key ≡ Less → WalksTo key (block ∷ blocks) zero None
  walks-too_many row is e = goes Less row zero None is e refl

  pub walks-equal : (row : Row) (more : ℕ) (found : Option (List Row)) → IsRowAt block row → key_order row.key key ≡ Equal
      → WalksTo key blocks more found → WalksTo key (block ∷ blocks) more (behind_rows (row ∷ []) found)
  walks-equal row more found is e h = goes Equal row more (behind_rows (row ∷ []) found) is e (found, h, refl)

  pub walks-greater : (row : Row) (more : ℕ) → IsRowAt block row → key_order row.key key ≡ Greater → WalksTo key (block ∷ blocks) more (Some [])
  walks-greater row more is e = goes Greater row more (Some []) is e refl

-- rows behind rows behind others
pub behind-both : (rows more : List Row) (found : Option (List Row)) → behind_rows rows (behind_rows more found) ≡ behind_rows (rows ++ more) found
behind-both rows more None = refl
behind-both rows more (Some others) = ap Some (sym (append_assoc rows more others))

pub behind-none : (found : Option (List Row)) → behind_rows [] found ≡ found
behind-none None = refl
behind-none (Some others) = refl

module _ (key : List ℕ) (all : List (List ℕ)) where
  pub continues-start : Continues key all lesser_limit [] all
  continues-start found h = subst (WalksTo key all lesser_limit) (sym (behind-none found)) h

  module _ (block : List ℕ) (blocks : List (List ℕ)) (rows : List Row) where
    pub continues-less : (row : Row) (more : ℕ) → IsRowAt block row → key_order row.key key ≡ Less
        → Continues key (block ∷ blocks) (suc more) rows all → Continues key blocks more rows all
    continues-less row more is e h found walks = h found (walks-less key block blocks row more found is e walks)

    pub continues-equal : (row : Row) (more : ℕ) → IsRowAt block row → key_order row.key key ≡ Equal
        → Continues key (block ∷ blocks) more rows all → Continues key blocks more (rows ++ row ∷ []) all
    continues-equal row more is e h found walks =
        subst (WalksTo key all lesser_limit) (behind-both rows (row ∷ []) found)
        (h (behind_rows (row ∷ []) found) (walks-equal key block blocks row more found is e walks))

    pub ends-broken : (more : ℕ) → IsBroken block → Continues key (block ∷ blocks) more rows all → WalksTo key all lesser_limit None
    ends-broken more is h = h None (walks-broken key block blocks more is)

    pub ends-too_many : (row : Row) → IsRowAt block row → key_order row.key key ≡ Less → Continues key (block ∷ blocks) zero rows all
        → WalksTo key all lesser_limit None
    ends-too_many row is e h = h None (walks-too_many key block blocks row is e)

    pub ends-greater : (row : Row) (more : ℕ) → IsRowAt block row → key_order row.key key ≡ Greater
        → Continues key (block ∷ blocks) more rows all → WalksTo key all lesser_limit (Some rows)
    ends-greater row more is e h =
        subst (λ (found : List Row). WalksTo key all lesser_limit (Some found)) (append-nil rows)
        (h (Some []) (walks-greater key block blocks row more is e))

  pub ends-whole : (rows : List Row) (more : ℕ) → Continues key [] more rows all → WalksTo key all lesser_limit (Some rows)
  ends-whole rows more h =
      subst (λ (found : List Row). WalksTo key all lesser_limit (Some found)) (append-nil rows) (h (Some []) refl)

-- ---- a walk under way, where the bytes are told or not

-- what is left of a walk
abbrev pub Going : Option (List ℕ) → List ℕ → ℕ → ℕ → ℕ → List Row → ℕ → ℕ → Type 0
Going told key at left more rows start count =
    IfSome told (λ bytes. Continues key (blocks_from bytes at left) more rows (blocks_from bytes start count))

-- as a walk begins
pub going-start : (key : List ℕ) (start count : ℕ) (told : Option (List ℕ)) → Going told key start count lesser_limit [] start count
going-start key start count None = tt
going-start key start count (Some bytes) = continues-start key (blocks_from bytes start count)

module _ (key : List ℕ) (start count at : ℕ) (rows : List Row) where
  -- with a block in hand
  at-block : (bytes : List ℕ) (left next more : ℕ) → left ≡ suc next → Continues key (blocks_from bytes at left) more rows (blocks_from bytes start count)
      → Continues key (take block_size (drop at bytes) ∷ blocks_from bytes (at + block_size) next) more rows (blocks_from bytes start count)
  at-block bytes left next more e h = subst (λ (n : ℕ). Continues key (blocks_from bytes at n) more rows (blocks_from bytes start count)) e h

  pub going-broken : (told : Option (List ℕ)) (left next more : ℕ) → left ≡ suc next → Going told key at left more rows start count
      → IfSome told (λ bytes. IsBroken (take block_size (drop at bytes)))
      → IfSome told (λ bytes. WalksTo key (blocks_from bytes start count) lesser_limit None)
  going-broken None left next more e h is = tt
  going-broken (Some bytes) left next more e h is =
      ends-broken key (blocks_from bytes start count) (take block_size (drop at bytes)) (blocks_from bytes (at + block_size) next) rows more is
      (at-block bytes left next more e h)

  module _ (row : Row) where
    pub going-too_many : (told : Option (List ℕ)) (left next more : ℕ) → left ≡ suc next → more ≡ 0 → Going told key at left more rows start count
        → IfSome told (λ bytes. IsRowAt (take block_size (drop at bytes)) row) → key_order row.key key ≡ Less
        → IfSome told (λ bytes. WalksTo key (blocks_from bytes start count) lesser_limit None)
    going-too_many None left next more e z h is o = tt
    going-too_many (Some bytes) left next more e z h is o =
        ends-too_many key (blocks_from bytes start count) (take block_size (drop at bytes)) (blocks_from bytes (at + block_size) next) rows row is o
        (subst (λ (m : ℕ). Continues key (take block_size (drop at bytes) ∷ blocks_from bytes (at + block_size) next) m rows (blocks_from bytes start count)) z
        (at-block bytes left next more e h))

    pub going-less : (told : Option (List ℕ)) (left next more fewer : ℕ) → left ≡ suc next → more ≡ suc fewer → Going told key at left more rows start count
        → IfSome told (λ bytes. IsRowAt (take block_size (drop at bytes)) row) → key_order row.key key ≡ Less
        → Going told key (at + block_size) next fewer rows start count
    going-less None left next more fewer e d h is o = tt
    going-less (Some bytes) left next more fewer e d h is o =
        continues-less key (blocks_from bytes start count) (take block_size (drop at bytes)) (blocks_from bytes (at + block_size) next) rows row fewer is o
        (subst (λ (m : ℕ). Continues key (take block_size (drop at bytes) ∷ blocks_from bytes (at + block_size) next) m rows (blocks_from bytes start count)) d
        (at-block bytes left next more e h))

    pub going-equal : (told : Option (List ℕ)) (left next more : ℕ) → left ≡ suc next → Going told key at left more rows start count
        → IfSome told (λ bytes. IsRowAt (take block_size (drop at bytes)) row) → key_order row.key key ≡ Equal
        → Going told key (at + block_size) next more (rows ++ row ∷ []) start count
    going-equal None left next more e h is o = tt
    going-equal (Some bytes) left next more e h is o =
        continues-equal key (blocks_from bytes start count) (take block_size (drop at bytes)) (blocks_from bytes (at + block_size) next) rows row more is o
        (at-block bytes left next more e h)

    pub going-greater : (told : Option (List ℕ)) (left next more : ℕ) → left ≡ suc next → Going told key at left more rows start count
        → IfSome told (λ bytes. IsRowAt (take block_size (drop at bytes)) row) → key_order row.key key ≡ Greater
        → IfSome told (λ bytes. WalksTo key (blocks_from bytes start count) lesser_limit (Some rows))
    going-greater None left next more e h is o = tt
    going-greater (Some bytes) left next more e h is o =
        ends-greater key (blocks_from bytes start count) (take block_size (drop at bytes)) (blocks_from bytes (at + block_size) next) rows row more is o
        (at-block bytes left next more e h)

  pub going-whole : (told : Option (List ℕ)) (left more : ℕ) → left ≡ 0 → Going told key at left more rows start count
      → IfSome told (λ bytes. WalksTo key (blocks_from bytes start count) lesser_limit (Some rows))
  going-whole None left more e h = tt
  going-whole (Some bytes) left more e h =
      ends-whole key (blocks_from bytes start count) rows more
      (subst (λ (n : ℕ). Continues key (blocks_from bytes at n) more rows (blocks_from bytes start count)) e h)

  -- a block that could not be had
  pub comes-fault : (old now new : Scratch) (left next more : ℕ) (fault : WalkFault) → now ≡ old → left ≡ suc next
      → Going old.appended key at left more rows start count → ReadsRow at (Err fault) now new → ComesTo key start count (Err fault) old new
  comes-fault old now new left next more Damaged same e h reads = (
    going-broken old.appended left next more e h
        (subst (λ (s : Scratch). IfSome s.appended (λ bytes. IsBroken (take block_size (drop at bytes)))) same reads.0),
    reads.1 ∙ same,
  )
  comes-fault old now new left next more (ReadFault before after) same e h reads = subst (λ (s : Scratch). FailsToRead before after s new) same reads
  comes-fault old now new left next more OutOfMemory same e h reads = absurd reads

-- a block that was read and is no row
pub broken-read : (at : ℕ) (block : List ℕ) (told : Option (List ℕ)) → IfSome told (λ bytes. block ≡ take (length block) (drop at bytes))
    → length block ≡ block_size → IsBroken block → IfSome told (λ bytes. IsBroken (take block_size (drop at bytes)))
broken-read at block None read size is = tt
broken-read at block (Some bytes) read size is = subst IsBroken (read ∙ ap (λ n. take n (drop at bytes)) size) is

-- Statement: how a walk over the blocks of a scratch file ends.
use Rattle.std.specs.Prelude.{◌≡◌, ◌≤◌, ◌+◌, ℕ, List, [], ◌∷◌, ◌++◌, take, drop, Vec, Option, Some, None, Result, Ok, Err, IfSome}
use Rattle.std.specs.Global.{Global}
use Rattle.outside.specs.Stream.{Rises}
use Rattle.tally_rows.specs.declared.row.Row.{Row}
use Rattle.outside.specs.Ports.{Scratch}
use Rattle.spill_blobs.specs.RowBlocks.{block_size, IsRowAt, IsBroken}
use Rattle.spill_blobs.specs.Walks.{WalksTo, blocks_from, lesser_limit, AreRead}
use Rattle.spill_blobs.specs.declared.walk_fault.WalkFault.{WalkFault}
use Rattle.spill_blobs.specs.declared.walk_fault.WalkFault.TheVariants.{ReadFault, Damaged, OutOfMemory}

-- what the told blocks come to
abbrev pub Told : List ℕ → ℕ → ℕ → Scratch → Option (List Row) → Type 0
Told key start count scratch found =
    IfSome scratch.appended
    (λ bytes. WalksTo key (blocks_from bytes start count) lesser_limit found)

-- a read failed, and all else is as before
pub record FailsToRead (before after : ℕ) (old new : Scratch) : Type 0 where
  pub count_before : before ≡ old.faults
  pub count_after : after ≡ new.faults
  pub rises : Rises old.faults new.faults
  pub rest : new ≡ record old { faults = new.faults }

-- the rows of the key, or why there are none
abbrev pub ComesTo : List ℕ → ℕ → ℕ → Result (Vec Row Global) WalkFault → Scratch → Scratch → Type 0
ComesTo key start count (Ok rows) old new =
    Told key start count old (Some rows.items) × (new ≡ old)
ComesTo key start count (Err Damaged) old new = Told key start count old None × (new ≡ old)
ComesTo key start count (Err (ReadFault before after)) old new = FailsToRead before after old new
ComesTo key start count (Err OutOfMemory) old new = new ≡ old

-- How many blocks were read, each for a step beside a number of others: no more than there are, and
-- where they are told few beside those that begin with the key.
pub record Reads (key : List ℕ) (blocks : List ℕ → List (List ℕ)) (count others : ℕ)
    (scratch : Scratch) (before after : ℕ) : Type 0 where
  pub read : ℕ
  pub steps : after ≤ before + others + read
  pub within : read ≤ count
  pub told : IfSome scratch.appended (λ bytes. AreRead key (blocks bytes) read)

-- ---- one block

-- the row of the block at a place, or that it is none
abbrev pub ReadsRow : ℕ → Result Row WalkFault → Scratch → Scratch → Type 0
ReadsRow at (Ok row) old new =
    IfSome old.appended (λ bytes. IsRowAt (take block_size (drop at bytes)) row) × (new ≡ old)
ReadsRow at (Err Damaged) old new =
    IfSome old.appended (λ bytes. IsBroken (take block_size (drop at bytes))) × (new ≡ old)
ReadsRow at (Err (ReadFault before after)) old new = FailsToRead before after old new
ReadsRow at (Err OutOfMemory) old new = ⊥

-- a row was put behind others, or memory was refused
abbrev pub Puts : Row → List Row → List Row → Result Unit WalkFault → Type 0
Puts row old new (Ok done) = new ≡ old ++ row ∷ []
Puts row old new (Err fault) = fault ≡ OutOfMemory

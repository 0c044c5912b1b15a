-- Statement: what calls that store do to a store on a disk, and what a crash may leave meanwhile.
use Rattle.std.specs.Prelude.{◌≡◌, ℕ, List, [], ◌∷◌, ◌++◌, Option, None, Some}
use Rattle.disk_model.specs.Disk.{DiskState, LeavesOnly}
use Rattle.explorer_model.specs.declared.archive.Batch.{Batch}
use Rattle.explorer_model.specs.Journal.{IsSound}
use Rattle.explorer_model.specs.Timeline.{IsPrefix}
use Rattle.record_log.specs.Log.{EachImage, IsFault, Log}
use Rattle.manifest.specs.Manifest.{HasFrontOf, HasJournal, IsWithOrWithoutBatch}
use Rattle.ingest_desk.specs.Stored.{Stored, journal}

-- an image has a sound journal that begins with this one, so that it is opened
pub record HasSoundBehind (journal : List Batch) (image : List ℕ) : Type 0 where
  pub longer : List Batch
  pub extends : IsPrefix journal longer
  pub sound : IsSound longer
  pub has : HasJournal longer image

-- What a crash leaves where the images had the journal before: now its batches too, and meanwhile
-- some of them.
pub record KeepsAll {D : Type 0} (disk : D → DiskState) (left_since : D → ℕ → List ℕ → Type 0)
    (journal batches : List Batch) (old new : D) : Type 0 where
  pub now : EachImage disk left_since new (HasJournal (journal ++ batches))
  pub meanwhile : LeavesOnly disk left_since old new (HasFrontOf journal batches)

-- The same where the disk failed under one batch more, which may be there: the journal is sound with
-- it.
pub record KeepsAllBut {D : Type 0} (disk : D → DiskState)
    (left_since : D → ℕ → List ℕ → Type 0) (journal batches : List Batch)
    (failed : Option Batch) (old new : D) : Type 0 where
  pub last : Batch
  pub is_failed : failed ≡ Some last
  pub sound : IsSound (journal ++ (batches ++ last ∷ []))
  pub now : EachImage disk left_since new (IsWithOrWithoutBatch (journal ++ batches) last)
  pub meanwhile : LeavesOnly disk left_since old new (HasFrontOf journal (batches ++ last ∷ []))

-- no call of the disk failed
pub record StaysOpen {D : Type 0} (disk : D → DiskState) (left_since : D → ℕ → List ℕ → Type 0)
    (journal batches : List Batch) (old new : D) : Type 0 where
  pub no_fault : (disk new).faults ≡ (disk old).faults
  pub crash : EachImage disk left_since old (HasJournal journal)
      → KeepsAll disk left_since journal batches old new

-- a call of the disk failed under a batch, and the store is closed with these counts
pub record Closes {D : Type 0} (disk : D → DiskState) (left_since : D → ℕ → List ℕ → Type 0)
    (counts : ℕ × ℕ) (journal batches : List Batch) (failed : Option Batch) (old new : D)
    : Type 0 where
  pub fault : IsFault counts.0 counts.1 (disk old) (disk new)
  pub crash : EachImage disk left_since old (HasJournal journal)
      → KeepsAllBut disk left_since journal batches failed old new

-- What becomes of a manifest, by the faults that closed it before and after, and of the batch that
-- failed; a closed one stays, and so does its batch.
abbrev pub Goes : {D : Type 0} → (D → DiskState) → (D → ℕ → List ℕ → Type 0)
    → List Batch → List Batch → Option (ℕ × ℕ) → Option (ℕ × ℕ) → Option Batch → Option Batch
    → Log D → Log D → Type 0
Goes disk left_since journal batches None None was failed old new =
    StaysOpen disk left_since journal batches old.disk new.disk
Goes disk left_since journal batches None (Some counts) was failed old new =
    Closes disk left_since counts journal batches failed old.disk new.disk
Goes disk left_since journal batches (Some counts) now was failed old new =
    (new ≡ old) × (batches ≡ []) × (failed ≡ was)

-- these batches were stored, one after another
pub record IsSince {D : Type 0} (disk : D → DiskState) (left_since : D → ℕ → List ℕ → Type 0)
    (old new : Stored D) : Type 0 where
  pub batches : List Batch
  pub journal_is : journal new ≡ journal old ++ batches
  pub manifest : Goes disk left_since (journal old) batches
      old.manifest.fault new.manifest.fault old.failed new.failed old.manifest new.manifest

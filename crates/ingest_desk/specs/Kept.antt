-- Bridge: what is true of an ingest at every moment that its lock is free.
use Rattle.std.specs.Prelude.{◌<◌, ℕ, List, [], ◌∷◌, ◌++◌, Option, None, Some}
use Rattle.disk_model.specs.Disk.{DiskState}
use Rattle.explorer_model.specs.declared.archive.Batch.{Batch}
use Rattle.explorer_model.specs.Journal.{IsSound}
use Rattle.record_log.specs.Log.{EachImage, Log}
use Rattle.manifest.specs.Manifest.{IsManifestOf, IsWithOrWithoutBatch}
use Rattle.published_index.specs.States.{Publishing, journal_by}
use Rattle.ingest_desk.specs.Registers.{IsRegisterOf}
use Rattle.ingest_desk.specs.declared.register.Register.{Register}

-- What a crash leaves: the journal; after a disk fault with the batch that failed or without it. The
-- journal is sound with that batch too, so that each of these files is opened. A batch has failed
-- exactly where a disk fault has closed the store, which the disk counts.
abbrev pub KeepsBy : {D : Type 0} → (D → DiskState) → (D → ℕ → List ℕ → Type 0) → List Batch
    → Log D → Option (ℕ × ℕ) → Option Batch → Type 0
KeepsBy disk left_since journal manifest None None =
    IsManifestOf disk left_since journal manifest
KeepsBy disk left_since journal manifest None (Some batch) = ⊥
KeepsBy disk left_since journal manifest (Some counts) None = ⊥
KeepsBy disk left_since journal manifest (Some counts) (Some batch) =
    IsSound (journal ++ batch ∷ [])
    × EachImage disk left_since manifest.disk (IsWithOrWithoutBatch journal batch)
    × (0 < (disk manifest.disk).faults)

abbrev pub Keeps : {D : Type 0} → (D → DiskState) → (D → ℕ → List ℕ → Type 0) → List Batch
    → Log D → Option Batch → Type 0
Keeps disk left_since journal manifest failed =
    KeepsBy disk left_since journal manifest manifest.fault failed

pub record IsKept {D : Type 0} (disk : D → DiskState) (left_since : D → ℕ → List ℕ → Type 0)
    (manifest : Log D) (index : Publishing) (register : Register) (failed : Option Batch)
    : Type 0 where
  pub knows : IsRegisterOf (journal_by index) register
  pub keeps : Keeps disk left_since (journal_by index) manifest failed

-- Statement: a manifest: the journal of batches on a disk, in a log whose payloads are those of the
-- batches.
use Rattle.std.specs.Prelude.{◌≡◌, ◌⊎◌, ◌+◌, ℕ, List, [], ◌∷◌, ◌++◌, length, map, All, None, IfSome, Ok, Err}
use Rattle.std.specs.List.{flat_map}
use Rattle.disk_model.specs.Disk.{DiskState, StaysTold}
use Rattle.explorer_model.specs.declared.archive.Batch.{Batch}
use Rattle.explorer_model.specs.declared.fault.Stop.{Stop}
use Rattle.explorer_model.specs.declared.fault.Stop.TheVariants as stops
use Rattle.explorer_model.specs.declared.store.LogFault.{LogFault}
use Rattle.explorer_model.specs.StoreFile.{payload_of, record_bytes, store_format, payload_limit, journal_of, IsStorable, store_of}
use Rattle.record_log.specs.Log.{Log, EachImage, IsLogOf, IsFault, IsNotAdded}
use Rattle.record_log.specs.declared.format.Format.{Format}
use Rattle.record_log.specs.declared.fault.AppendFault.{AppendFault}
use Rattle.record_log.specs.declared.fault.OpenFault.{OpenFault}
use Rattle.record_log.specs.declared.fault.OpenFault.TheVariants as opening

-- the format of a log of batches
abbrev pub batch_format : Format
batch_format = record { number = store_format; most = payload_limit }

-- ---- one image

-- the journal of an image is this one
abbrev pub HasJournal : List Batch → List ℕ → Type 0
HasJournal journal image = journal_of image ≡ Ok journal

-- it is this one, with one batch more or without it
abbrev pub IsWithOrWithoutBatch : List Batch → Batch → List ℕ → Type 0
IsWithOrWithoutBatch journal batch image =
    HasJournal journal image ⊎ HasJournal (journal ++ batch ∷ []) image

-- it is this one with some front of the batches behind it
abbrev pub HasFrontOf : List Batch → List Batch → List ℕ → Type 0
HasFrontOf journal batches image = (front : List Batch) × (rest : List Batch)
    × (batches ≡ front ++ rest) × HasJournal (journal ++ front) image

-- ---- a manifest

-- a manifest with this journal, which every image has
pub record IsManifestOf {D : Type 0} (disk : D → DiskState)
    (left_since : D → ℕ → List ℕ → Type 0) (journal : List Batch) (manifest : Log D) : Type 0 where
  pub sound : manifest.fault ≡ None
  pub is_format : manifest.format ≡ batch_format
  pub storable : All IsStorable journal
  pub place : manifest.gate ≡ length (store_of journal)
  pub images : EachImage disk left_since manifest.disk (HasJournal journal)
  -- what the next batch is put behind
  pub payloads : IsLogOf disk left_since (map payload_of journal) manifest

-- ---- store

-- how many bytes the records of batches have
abbrev pub size_of_records : List Batch → ℕ
size_of_records batches = length (flat_map record_bytes (map payload_of batches))

-- batches were added one after another, and no call of the disk failed
pub record AddsAll {D : Type 0} (disk : D → DiskState) (batches : List Batch)
    (old new : Log D) : Type 0 where
  pub sound : (batches ≡ []) ⊎ (old.fault ≡ None)
  pub no_fault : (disk new.disk).faults ≡ (disk old.disk).faults
  pub told : StaysTold (disk old.disk) (disk new.disk)
  pub rest : new ≡ record old { disk = new.disk; gate = old.gate + size_of_records batches }

-- batches were stored one after another, behind any journal that the manifest had
pub record StoresAll {D : Type 0} (disk : D → DiskState) (left_since : D → ℕ → List ℕ → Type 0)
    (batches : List Batch) (old new : Log D) : Type 0 where
  pub adds : AddsAll disk batches old new
  pub holds : (journal : List Batch) → IsManifestOf disk left_since journal old
      → IsManifestOf disk left_since (journal ++ batches) new

-- the batches before one were stored, and that one was not, by this fault
pub record StopsAt {D : Type 0} (disk : D → DiskState) (left_since : D → ℕ → List ℕ → Type 0)
    (batches : List Batch) (fault : AppendFault) (old new : Log D) : Type 0 where
  pub front : List Batch
  pub batch : Batch
  pub rest : List Batch
  pub split : batches ≡ front ++ batch ∷ rest
  pub middle : Log D
  pub stored : StoresAll disk left_since front old middle
  pub fails : IsNotAdded disk fault middle new

-- ---- open

-- a manifest that was opened with this journal, which is what is read of the disk where it tells
pub record IsOpened {D : Type 0} (disk : D → DiskState) (left_since : D → ℕ → List ℕ → Type 0)
    (journal : List Batch) (before : D) (manifest : Log D) : Type 0 where
  pub read : IfSome (disk before).content (HasJournal journal)
  pub holds : IsManifestOf disk left_since journal manifest

-- each fault of an opening, and what it says of the disk
abbrev pub IsNotOpened : {D : Type 0} → (D → DiskState) → OpenFault → D → D → Type 0
IsNotOpened disk (opening.Log fault) old new =
    IfSome (disk old).content (λ file. journal_of file ≡ Err fault)
IsNotOpened disk (opening.DiskFault before after) old new =
    IsFault before after (disk old) (disk new)
IsNotOpened disk opening.OutOfMemory old new = Unit {0}

-- the fault of an opening whose payloads are not decoded
abbrev pub open_fault : Stop LogFault → OpenFault
open_fault (stops.Fault fault) = opening.Log fault
open_fault stops.OutOfMemory = opening.OutOfMemory

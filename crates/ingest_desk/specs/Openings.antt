-- Statement: what the opening of a store answers.
use Rattle.std.specs.Prelude.{◌≡◌, ◌⊎◌, ℕ, List, None, IfSome, Ok, Err}
use Rattle.disk_model.specs.Disk.{DiskState, IsQuiet}
use Rattle.explorer_model.specs.declared.archive.Batch.{Batch}
use Rattle.explorer_model.specs.declared.store.LogFault.{LogFault}
use Rattle.explorer_model.specs.declared.store.LogFault.TheVariants.{Damaged}
use Rattle.explorer_model.specs.Journal.{IsSound}
use Rattle.explorer_model.specs.StoreFile.{journal_of}
use Rattle.record_log.specs.Log.{EachImage, IsFault}
use Rattle.record_log.specs.declared.fault.Back.{Back}
use Rattle.record_log.specs.declared.fault.OpenFault.{OpenFault}
use Rattle.record_log.specs.declared.fault.OpenFault.TheVariants as opening
use Rattle.manifest.specs.Manifest.{HasJournal}
use Rattle.published_index.specs.Cover.{journal_of as published_by}
use Rattle.ingest_desk.specs.Recounts.{IsUnsoundAt}
use Rattle.ingest_desk.specs.Stored.{Nameless}

-- the file has a journal, which is not sound from this place on
pub record IsUnsound (file : List ℕ) (fault : LogFault) : Type 0 where
  pub journal : List Batch
  pub read : journal_of file ≡ Ok journal
  pub gate : ℕ
  pub at : IsUnsoundAt journal gate
  pub is : fault ≡ Damaged gate

-- what is wrong with the file: it is no store, or its journal is not sound
abbrev pub IsWrong : LogFault → List ℕ → Type 0
IsWrong fault file = (journal_of file ≡ Err fault) ⊎ IsUnsound file fault

-- each fault of an opening, and what it says of the disk
abbrev pub IsNotOpened : {D : Type 0} → (D → DiskState) → OpenFault → D → D → Type 0
IsNotOpened disk (opening.Log fault) old new = IfSome (disk old).content (IsWrong fault)
IsNotOpened disk (opening.DiskFault before after) old new =
    IsFault before after (disk old) (disk new)
IsNotOpened disk opening.OutOfMemory old new = Unit {0}

-- The store on a disk is opened, for so many readers: what is published is the journal of its file,
-- which is sound, and of each that a crash leaves. No call of the disk failed, and none wrote.
pub record IsOpened {D : Type 0} (disk : D → DiskState) (left_since : D → ℕ → List ℕ → Type 0)
    (old : D) (count : ℕ) (unnamed : Nameless D) : Type 0 where
  pub read : IfSome (disk old).content (HasJournal (published_by unnamed.index.list))
  pub sound : unnamed.manifest.fault ≡ None
  pub recounted : IsSound (published_by unnamed.index.list)
  pub images : EachImage disk left_since unnamed.manifest.disk
      (HasJournal (published_by unnamed.index.list))
  pub readers : unnamed.index.readers ≡ count
  pub quiet : IsQuiet disk left_since old unnamed.manifest.disk
  pub no_fault : (disk unnamed.manifest.disk).faults ≡ (disk old).faults

-- it is not opened, and the disk is handed back: why, and no call wrote
pub record IsHandedBack {D : Type 0} (disk : D → DiskState)
    (left_since : D → ℕ → List ℕ → Type 0) (old : D) (back : Back D OpenFault) : Type 0 where
  pub refused : IsNotOpened disk back.fault old back.disk
  pub quiet_refused : IsQuiet disk left_since old back.disk

-- Statement: what becomes of the disk of a store that is to be opened.
use Rattle.std.specs.Prelude.{◌≡◌, List, ℕ, IfSome}
use Rattle.disk_model.specs.Disk.{DiskState}
use Rattle.outside.specs.Stream.{Rises}
use Rattle.explorer_model.specs.declared.archive.Batch.{Batch}
use Rattle.explorer_model.specs.declared.store.LogFault.{LogFault}
use Rattle.explorer_model.specs.Journal.{IsSound}
use Rattle.manifest.specs.Manifest.{HasJournal}
use Rattle.record_log.specs.declared.fault.OpenFault.{OpenFault}
use Rattle.record_log.specs.declared.fault.OpenFault.TheVariants as opening
use Rattle.ingest_desk.specs.Openings.{IsWrong}
use Rattle.explorer.specs.Stores.{OnlyHost, UsesDisk}
use Rattle.explorer.specs.World.{World}

-- the disk is no store, by this fault, where it tells its bytes, and keeps them; no call of it failed
pub record IsRefusedBy (fault : LogFault) (handed returned : DiskState) : Type 0 where
  pub wrong : IfSome handed.content (IsWrong fault)
  pub kept : returned.content ≡ handed.content
  pub no_fault : returned.faults ≡ handed.faults

-- nothing was written to the disk, and no call of it failed
pub record IsUnchanged (handed returned : DiskState) : Type 0 where
  pub kept : returned.content ≡ handed.content
  pub no_fault : returned.faults ≡ handed.faults

-- a call of the disk failed, and nothing was written
pub record FailsUnread (handed returned : DiskState) : Type 0 where
  pub kept : returned.content ≡ handed.content
  pub rises : Rises handed.faults returned.faults

-- the disk has this journal, where it tells its bytes, and was opened without a fault; it is sound
pub record OpensTo (journal : List Batch) (handed opened : DiskState) : Type 0 where
  pub read : IfSome handed.content (HasJournal journal)
  pub sound : IsSound journal
  pub kept : opened.content ≡ handed.content
  pub no_fault : opened.faults ≡ handed.faults

-- what an opening that failed says of the disk
abbrev pub NotOpened : OpenFault → DiskState → DiskState → Type 0
NotOpened (opening.Log fault) handed returned = IsRefusedBy fault handed returned
NotOpened (opening.DiskFault before after) handed returned = FailsUnread handed returned
NotOpened opening.OutOfMemory handed returned = IsUnchanged handed returned

-- the store is refused, and nothing else is done
abbrev pub RefusesStore : LogFault → List ℕ → World → World → Type 0
RefusesStore fault store before after =
    UsesDisk store (IsRefusedBy fault) before.host after.host × OnlyHost before after

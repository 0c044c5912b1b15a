-- Statement: what the opening of a store through a scratch file answers.
use Rattle.std.specs.Prelude.{◌≡◌, ℕ, List, IfSome, length}
use Rattle.std.specs.List.{AllByRecursion}
use Rattle.disk_model.specs.Disk.{DiskState, IsQuiet}
use Rattle.explorer_model.specs.declared.archive.Batch.{Batch}
use Rattle.explorer_model.specs.declared.fault.Stop.{Stop}
use Rattle.explorer_model.specs.declared.fault.Stop.TheVariants as stops
use Rattle.explorer_model.specs.declared.store.LogFault.TheVariants.{Damaged}
use Rattle.explorer_model.specs.Journal.{IsSound}
use Rattle.manifest.specs.Manifest.{HasJournal}
use Rattle.outside.specs.Ports.{Scratch}
use Rattle.outside.specs.Stream.{Rises}
use Rattle.record_log.specs.declared.fault.Back.{Back}
use Rattle.record_log.specs.declared.fault.OpenFault.TheVariants.{Log, OutOfMemory}
use Rattle.segment_blocks.specs.Segment.{CountedSpan}
use Rattle.spill_blobs.specs.Sets.{journal_of, set_bytes, HasJust}
use Rattle.spill_blobs.specs.declared.port_fault.PortFault.{PortFault}
use Rattle.spill_blobs.specs.declared.port_fault.PortFault.TheVariants.{WriteFault}
use Rattle.ingest_desk.specs.Openings.{IsNotOpened}
use Rattle.ingest_desk.specs.Recounts.{IsUnsoundAt}
use Rattle.ingest_desk.specs.declared.spill_fault.SpillOpenFault.{SpillOpenFault}
use Rattle.ingest_desk.specs.declared.spill_fault.SpillOpenFault.TheVariants.{Store, Port}

-- each segment has one batch
abbrev pub AreLone : List CountedSpan → Type 0
AreLone set = AllByRecursion (λ segment. length segment.span.batches ≡ 1) set

-- an append failed: the counts of the file's faults, which rose
abbrev pub IsWriteFault : PortFault → Scratch → Scratch → Type 0
IsWriteFault (WriteFault b a) before after =
    (b ≡ before.faults) × (a ≡ after.faults) × Rises before.faults after.faults
IsWriteFault _ before after = ⊥

-- each fault of such an opening, and what it says of the disk and of the scratch file
abbrev pub IsNotSpilled : {D : Type 0} → (D → DiskState) → SpillOpenFault → D → D
    → Scratch → Scratch → Type 0
IsNotSpilled disk (Store fault) old new before after =
    IsNotOpened disk fault old new × (after.faults ≡ before.faults)
IsNotSpilled disk (Port fault) old new before after =
    IsWriteFault fault before after × ((disk new).faults ≡ (disk old).faults)

-- The store is opened through the file: the set has the disk's journal, which is sound, one part a
-- batch, and the file just the set's bytes. No call of the disk or of the file failed, and none
-- wrote to the disk.
pub record IsOpenedThrough {D : Type 0} (disk : D → DiskState)
    (left_since : D → ℕ → List ℕ → Type 0) (old : D) (before after : Scratch) (new : D)
    (set : List CountedSpan) : Type 0 where
  pub read : IfSome (disk old).content (HasJournal (journal_of set))
  pub sound : IsSound (journal_of set)
  pub parts : AreLone set
  pub written : HasJust after (set_bytes set)
  pub port_faults : after.faults ≡ before.faults
  pub quiet : IsQuiet disk left_since old new
  pub no_fault : (disk new).faults ≡ (disk old).faults

-- it is not opened, and the disk is handed back: why, and no call wrote to it
pub record IsHandedBackUnspilled {D : Type 0} (disk : D → DiskState)
    (left_since : D → ℕ → List ℕ → Type 0) (old : D) (before after : Scratch)
    (back : Back D SpillOpenFault) : Type 0 where
  pub refused : IsNotSpilled disk back.fault old back.disk before after
  pub quiet_refused : IsQuiet disk left_since old back.disk

-- ---- batches that are counted and put into the file one after another

-- the segments are those of the journal's batches, one each
pub record IsSpillOf (journal : List Batch) (set : List CountedSpan) : Type 0 where
  pub whole : journal_of set ≡ journal
  pub sound : IsSound journal
  pub lone : AreLone set

-- the fault of a segment that was not added
abbrev pub fault_of_stop : Stop PortFault → SpillOpenFault
fault_of_stop (stops.Fault fault) = Port fault
fault_of_stop stops.OutOfMemory = Store OutOfMemory

-- why counting stopped
abbrev pub StopsSpilling : List Batch → SpillOpenFault → Scratch → Scratch → Type 0
StopsSpilling journal (Store (Log (Damaged gate))) before after =
    IsUnsoundAt journal gate × (after.faults ≡ before.faults)
StopsSpilling journal (Store OutOfMemory) before after = after.faults ≡ before.faults
StopsSpilling journal (Store _) before after = ⊥
StopsSpilling journal (Port fault) before after = IsWriteFault fault before after

-- Bridge: how a run of the command `serve` ends once its workers have returned.
use Rattle.std.specs.Prelude.{◌≡◌, ◌⊎◌, ◌≤◌, ℕ, Bool, true, false, List, [], ◌++◌, length, Option, None, Some, IfSome, Result, Ok, Err, unwrap_or}
use Rattle.disk_model.specs.Disk.{DiskState}
use Rattle.outside.specs.Stream.{FailsToTake, Stream, Takes, Wrote}
use Rattle.explorer_model.specs.declared.archive.Batch.{Batch}
use Rattle.explorer_model.specs.Journal.{IsSound}
use Rattle.manifest.specs.Manifest.{HasJournal}
use Rattle.explorer.specs.declared.fault.Fault.{Fault}
use Rattle.explorer.specs.declared.fault.Fault.TheVariants.{DiskFault, OutOfMemory, WriteFault}
use Rattle.explorer.specs.Lines.{Ending, Done, Stopped}

-- the fault by which a run ends that served: the disk's, else the first of the workers
abbrev pub cause : Bool → Option Fault → Option Fault
cause true first = Some DiskFault
cause false first = first

-- the ending of a run whose lines had memory: by its cause, else by a fault of a sink
abbrev pub EndsBy : {A E : Type 0} → Option Fault → Result A E → List ℕ
    → Stream → Stream → Ending → Type 0
EndsBy (Some fault) listens lines old new ending = ending ≡ Stopped fault
EndsBy None (Err failed) lines old new ending = ending ≡ Stopped WriteFault
EndsBy None (Ok listening) lines old new ending =
    (Takes lines old new × (ending ≡ Done))
    ⊎ (FailsToTake lines old new × (ending ≡ Stopped WriteFault))

-- The lines were written, or their write failed, and the run ended. Where memory was wanting for them,
-- it ended by its cause all the same.
abbrev pub Concludes : {A E : Type 0} → Option (List ℕ) → Option Fault → Result A E
    → Stream → Stream → Ending → Type 0
Concludes None fault listens old new ending =
    (new ≡ old) × (ending ≡ Stopped (unwrap_or fault OutOfMemory))
Concludes (Some lines) fault listens old new ending =
    Wrote lines old new × EndsBy fault listens lines old new ending

-- What is told of a disk is a sound journal: this one, and at most a batch behind it, where a call of
-- the disk failed.
pub record TellsLonger (journal : List Batch) (disk : DiskState) : Type 0 where
  pub failed : List Batch
  pub few : length failed ≤ 1
  pub faultless : disk.faults ≡ 0 → failed ≡ []
  pub sound : IsSound (journal ++ failed)
  pub tells : IfSome disk.content (HasJournal (journal ++ failed))

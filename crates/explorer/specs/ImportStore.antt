-- Statement: how a run of the command `import` ends.
use Rattle.std.specs.Prelude.{◌≡◌, ◌⊎◌, ◌++◌, ℕ, true, false, List, [], ◌∷◌, length, IfSome, Option, None, Some, Result, Err, codes, string_bytes, unwrap_or}
use Rattle.std.specs.Fmt.{decimal}
use Rattle.disk_model.specs.Disk.{DiskState}
use Rattle.outside.specs.Stream.{Stream, Reads, Rises, Writes}
use Rattle.explorer_model.specs.declared.archive.Batch.{Batch}
use Rattle.explorer_model.specs.declared.fault.Refusal.{Refusal}
use Rattle.explorer_model.specs.declared.store.LogFault.TheVariants as log
use Rattle.explorer_model.specs.Journal.{IsSound, game_count}
use Rattle.explorer_model.specs.Labels.{is_label}
use Rattle.manifest.specs.Manifest.{HasJournal}
use Rattle.host.specs.Hosts.{HandsDisk, HandsFile, HostState, RefusesDisk, RefusesFile, TakesDisk, TakesFile}
use Rattle.ingest_desk.specs.declared.report.ImportEnding.{ImportEnding}
use Rattle.ingest_desk.specs.declared.report.ImportEnding.TheVariants as endings
use Rattle.import_run.specs.Committing.{Known}
use Rattle.explorer.specs.declared.fault.Fault.{Fault}
use Rattle.explorer.specs.declared.importing.Came.{Came}
use Rattle.explorer.specs.declared.fault.Fault.TheVariants.{BadLabel, CannotOpen, Damaged, DiskFault, Full, NotAStore, OtherFormat, OutOfMemory, ReadFault, TooMuchInput, WriteFault}
use Rattle.explorer.specs.Faults.{fault_by}
use Rattle.explorer.specs.Imported.{FaultsBy, HoldsBy, StandsBy, StoredBy}
use Rattle.explorer.specs.Lines.{Ending, Done, Stopped, ending_of}
use Rattle.explorer.specs.Opened.{FailsUnread, IsUnchanged, RefusesStore}
use Rattle.explorer.specs.Report.{report}
use Rattle.explorer.specs.Stores.{IsSized, OnlyHost, UsesDisk}
use Rattle.explorer.specs.World.{World}

-- ---- what is printed

-- how many games and batches an import stored, and how many batches the store has then
abbrev pub totals : ℕ → ℕ → ℕ → List ℕ
totals games batches journal =
    codes "stored " ++ decimal games ++ codes "\nbatches " ++ decimal batches
    ++ codes "\njournal " ++ decimal journal ++ codes "\n"

-- ---- what is asked of the host

-- a disk was handed out and came to this, and a file was; both were given back
pub record UsesBoth (store file : List ℕ) (disk disk_after : DiskState)
    (source source_after : Stream) (before after : HostState) : Type 0 where
  pub sized : IsSized disk
  pub opened : HostState
  pub hands_disk : HandsDisk store disk before opened
  pub given : HostState
  pub hands_file : HandsFile file source opened given
  pub taken : HostState
  pub takes_file : TakesFile file source_after given taken
  pub takes_disk : TakesDisk store disk_after taken after

-- The disk of a store with a sound journal was handed out, the file of this name was refused, and the
-- disk was given back as it was.
pub record LacksFile (store file : List ℕ) (before after : HostState) : Type 0 where
  pub disk : DiskState
  pub opened : HostState
  pub hands : HandsDisk store disk before opened
  pub journal : List Batch
  pub read : IfSome disk.content (HasJournal journal)
  pub sound : IsSound journal
  pub refused : HostState
  pub refuses : RefusesFile file opened refused
  pub disk_after : DiskState
  pub unchanged : IsUnchanged disk disk_after
  pub takes : TakesDisk store disk_after refused after

-- a disk and a file were handed out, and given back as they were
pub record UsesInVain (store file : List ℕ) (before after : HostState) : Type 0 where
  pub disk : DiskState
  pub disk_after : DiskState
  pub source : Stream
  pub uses : UsesBoth store file disk disk_after source source before after
  pub unchanged : IsUnchanged disk disk_after

-- ---- what the import comes to

-- An import of the file into the store under a label ended so: some bytes of the file were taken,
-- and the batches that were stored of them stand behind the journal that the store had.
pub record ImportsInto (ending : ImportEnding) (store file label : List ℕ)
    (before after : HostState) : Type 0 where
  pub disk : DiskState
  pub disk_after : DiskState
  pub source : Stream
  pub source_after : Stream
  pub uses : UsesBoth store file disk disk_after source source_after before after
  pub start : Known
  pub sound : start.fault ≡ None
  pub read : IfSome disk.content (HasJournal start.journal)
  pub stream : List ℕ
  pub reads : Reads stream source source_after
  pub batches : List Batch
  pub refused : List Refusal
  pub stored : List Batch
  -- the batch that failed, where the ending is a disk fault
  pub failed : Option Batch
  pub stands : StandsBy label ending start stream source_after.left batches refused stored failed
  pub stored_are : StoredBy ending (start.journal ++ batches) stored
  pub is_sound : IsSound stored
  pub holds : IfSome disk_after.content (HoldsBy ending stored failed)
  pub faults : FaultsBy ending disk disk_after source source_after

-- and what it refused and stored was told
pub record ImportsTo (ending : ImportEnding) (store file label : List ℕ) (before after : World)
    : Type 0 where
  pub imports : ImportsInto ending store file label before.host after.host
  pub errors : Writes (report imports.refused ∷ []) before.errors after.errors
  pub output : Writes (totals (game_count imports.batches) (length imports.batches)
      (length imports.stored) ∷ []) before.output after.output
  pub rest : after ≡ record before
      { output = after.output; errors = after.errors; host = after.host }

-- or, where memory was wanting for that, nothing was
pub record ImportsUntold (ending : ImportEnding) (store file label : List ℕ) (before after : World)
    : Type 0 where
  pub imports : ImportsInto ending store file label before.host after.host
  pub only : OnlyHost before after

-- the import ended so, and was told or was not
abbrev pub ImportsSo : ImportEnding → (store file label : List ℕ) → World → World → Type 0
ImportsSo ending store file label before after =
    ImportsTo ending store file label before after
    ⊎ ImportsUntold ending store file label before after

-- memory was wanting when the store was opened, or before the import began
abbrev pub LacksBy : List ℕ → List ℕ → HostState → HostState → Type 0
LacksBy store file before after = UsesDisk store IsUnchanged before after
    ⊎ UsesInVain store file before after

-- memory was wanting: before the import began, in it, or to tell of one that came to its end
abbrev pub LacksMemory : (store file label : List ℕ) → World → World → Type 0
LacksMemory store file label before after =
    (LacksBy store file before.host after.host × OnlyHost before after)
    ⊎ ImportsSo endings.OutOfMemory store file label before after
    ⊎ ImportsUntold endings.Whole store file label before after

-- no write failed
pub record WroteAll (before after : World) : Type 0 where
  pub output : after.output.write_faults ≡ before.output.write_faults
  pub errors : after.errors.write_faults ≡ before.errors.write_faults

-- a write to one of the sinks failed
abbrev pub SomeWriteFails : World → World → Type 0
SomeWriteFails before after = Rises before.output.write_faults after.output.write_faults
    ⊎ Rises before.errors.write_faults after.errors.write_faults

-- a run of `import` under a label, by its ending; no other can be
abbrev pub ImportsLabelled : (store file label : List ℕ) → World → World → Ending → Type 0
ImportsLabelled store file label before after Done =
    ImportsTo endings.Whole store file label before after × WroteAll before after
ImportsLabelled store file label before after (Stopped WriteFault) =
    ImportsTo endings.Whole store file label before after × SomeWriteFails before after
ImportsLabelled store file label before after (Stopped ReadFault) =
    (first : ℕ) × (last : ℕ)
    × ImportsSo (endings.ReadFault first last) store file label before after
ImportsLabelled store file label before after (Stopped TooMuchInput) =
    (bytes : ℕ) × ImportsSo (endings.TooMuch bytes) store file label before after
ImportsLabelled store file label before after (Stopped (Full games bytes)) =
    ImportsSo (endings.Full games bytes) store file label before after
ImportsLabelled store file label before after (Stopped DiskFault) =
    (UsesDisk store FailsUnread before.host after.host × OnlyHost before after)
    ⊎ ((first : ℕ) × (last : ℕ)
    × ImportsSo (endings.DiskFault first last) store file label before after)
ImportsLabelled store file label before after (Stopped NotAStore) =
    RefusesStore log.NotALog store before after
ImportsLabelled store file label before after (Stopped (OtherFormat number)) =
    RefusesStore (log.OtherFormat number) store before after
ImportsLabelled store file label before after (Stopped (Damaged gate)) =
    RefusesStore (log.Damaged gate) store before after
ImportsLabelled store file label before after (Stopped (CannotOpen name)) =
    ((string_bytes name ≡ store) × RefusesDisk store before.host after.host
    × OnlyHost before after)
    ⊎ ((string_bytes name ≡ file) × LacksFile store file before.host after.host
    × OnlyHost before after)
ImportsLabelled store file label before after (Stopped OutOfMemory) =
    LacksMemory store file label before after
ImportsLabelled store file label before after (Stopped _) = ⊥

-- a run of `import`: a text that is no label stops it before anything is asked of the host
abbrev pub ImportsBy : (store file label : List ℕ) → World → World → Ending → Type 0
ImportsBy store file label before after ending =
    ((is_label label ≡ false) × (ending ≡ Stopped BadLabel) × (after ≡ before))
    ⊎ ((is_label label ≡ true) × ImportsLabelled store file label before after ending)

-- ---- bridge: what the code comes to on the way

-- the outcome, where all was told that could be
abbrev pub OutcomeBy : Option Fault → Stream → Stream → Stream → Stream → Ending → Type 0
OutcomeBy (Some fault) output output_after errors errors_after ending = ending ≡ Stopped fault
OutcomeBy None output output_after errors errors_after Done =
    (output_after.write_faults ≡ output.write_faults)
    × (errors_after.write_faults ≡ errors.write_faults)
OutcomeBy None output output_after errors errors_after (Stopped WriteFault) =
    Rises output.write_faults output_after.write_faults
    ⊎ Rises errors.write_faults errors_after.write_faults
OutcomeBy None output output_after errors errors_after (Stopped _) = ⊥

-- what is refused was reported, and the totals were printed
pub record IsTold (came : Came) (output output_after errors errors_after : Stream)
    (ending : Ending) : Type 0 where
  pub errors_are : Writes (report came.refused.items ∷ []) errors errors_after
  pub output_is : Writes (totals came.games came.batches came.journal ∷ []) output output_after
  pub outcome : OutcomeBy (fault_by came.ending) output output_after errors errors_after ending

-- it was told what the import came to; or memory was wanting for that, nothing was written, and the
-- run ended by the import's fault all the same
abbrev pub IsToldOf : Came → Result (Unit {0}) Fault → Stream → Stream → Stream → Stream → Type 0
IsToldOf came result output output_after errors errors_after =
    ((result ≡ Err (unwrap_or (fault_by came.ending) OutOfMemory))
    × (output_after ≡ output) × (errors_after ≡ errors))
    ⊎ IsTold came output output_after errors errors_after (ending_of result)

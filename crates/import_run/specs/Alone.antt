-- Statement: what an import comes to that alone stores in its store, and what draining does.
use Rattle.std.specs.Prelude.{◌≡◌, ◌+◌, ◌≤◌, ℕ, List, ◌++◌, length, None}
use Rattle.disk_model.specs.Disk.{DiskState}
use Rattle.outside.specs.Stream.{Stream, Reads}
use Rattle.explorer_model.specs.declared.archive.Batch.{Batch}
use Rattle.explorer_model.specs.Cuts.{cuts}
use Rattle.explorer_model.specs.Journal.{IsSound}
use Rattle.record_log.specs.Log.{IsFault}
use Rattle.ingest_desk.specs.Installs.{list_by}
use Rattle.ingest_desk.specs.Kept.{Keeps}
use Rattle.ingest_desk.specs.Picking.{HasNoneDue}
use Rattle.ingest_desk.specs.Stored.{Stored, journal}
use Rattle.ingest_desk.specs.declared.report.End.{End}
use Rattle.ingest_desk.specs.declared.report.End.TheVariants as ends
use Rattle.ingest_desk.specs.declared.report.Report.{Report}
use Rattle.import_run.specs.Beside.{AreRepeats}
use Rattle.import_run.specs.Committing.{Known, Store, store_of}
use Rattle.import_run.specs.Ending.{ReadFaultsAre, StandsAt, StoresBy}
use Rattle.import_run.specs.Progress.{AreReceiptsOf}
use Rattle.import_run.specs.Since.{IsSince}
use Rattle.import_run.specs.declared.draining.DrainEnd.{DrainEnd}
use Rattle.import_run.specs.declared.draining.DrainEnd.TheVariants.{Idle, Gone, OutOfMemory}
use Rattle.import_run.specs.declared.draining.Drained.{Drained}

-- the stored journal of a store on a disk, and the counts of the fault that closed it, with the batch
-- that failed
abbrev pub stored_in : {D : Type 0} → Stored D → Store
stored_in stored = record {
  journal = journal stored;
  fault = stored.manifest.fault;
  failed = stored.failed;
}

-- the disk's count rose exactly where the end says so, by the call that it tells of
abbrev pub DiskFaultsAre : {J : Type 0} → End J → DiskState → DiskState → Type 0
DiskFaultsAre (ends.DiskFault before after mark) old new = IsFault before after old new
DiskFaultsAre _ old new = new.faults ≡ old.faults

-- What an import under a label comes to by its report, from the bytes that it took of its source.
pub record ImportsAlone {D J : Type 0} (label : List ℕ) (disk : D → DiskState)
    (left_since : D → ℕ → List ℕ → Type 0) (source : Stream) (before : Stored D)
    (source_after : Stream) (after : Stored D) (report : Report J) : Type 0 where
  -- the bytes that were taken
  pub stream : List ℕ
  pub reads : Reads stream source source_after
  pub read_faults : ReadFaultsAre report.end source source_after
  -- the store at the beginning, with the games of its journal
  pub start : Known
  pub start_is : store_of start ≡ stored_in before
  pub none_failed : start.fault ≡ None → start.failed ≡ None
  -- the batches of the receipts, and what became of the groups of the stream
  pub batches : List Batch
  pub receipts : AreReceiptsOf start.journal report.receipts.items batches
  pub stands : StandsAt label report.end start stream source_after.left batches report.refused.items
      (stored_in after)
  -- each number that a text is refused with is that of a game in the journal of one of the notes
  pub repeats : AreRepeats (cuts stream) report.clashes.items report.refused.items
  -- the store afterwards
  pub stores : StoresBy report.end (start.journal ++ batches) start.fault (stored_in after)
  pub sound : IsSound (journal after)
  pub disk_faults :
      DiskFaultsAre report.end (disk before.manifest.disk) (disk after.manifest.disk)
  -- What a crash leaves now, and what it may have left meanwhile: fronts of a sound journal, which
  -- are sound.
  pub keeps : Keeps disk left_since (journal after) after.manifest after.failed
  pub since : IsSince disk left_since before after

-- ---- draining

-- All neighbours that were due have become one, or memory was wanting. Each job has made the list one
-- shorter, which begins with what was held.
abbrev pub AnswersDrained : {D : Type 0} → DrainEnd → ℕ → Stored D → Stored D → Type 0
AnswersDrained Idle jobs before after =
    (after.index.held ≡ None) × HasNoneDue after.index.list
    × (jobs + length after.index.list ≡ length (list_by before.index))
AnswersDrained Gone jobs before after = ⊥
AnswersDrained OutOfMemory jobs before after = jobs ≤ length (list_by before.index)

-- so many jobs were installed, and the store is as it was
pub record DrainsAlone {D : Type 0} (before after : Stored D) (drained : Drained) : Type 0 where
  pub answers : AnswersDrained drained.end drained.jobs before after
  pub same_journal : journal after ≡ journal before
  pub same_manifest : after.manifest ≡ before.manifest
  pub same_failed : after.failed ≡ before.failed

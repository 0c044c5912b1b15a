-- Statement: how a store stands in its life, and which event each answer is.
use Rattle.std.specs.Prelude.{◌≡◌, ⊤, ℕ, Bool, true, List, [], ◌∷◌, ◌++◌, Option, None, Some, Result, Ok, Err}
use Rattle.disk_model.specs.Disk.{DiskState, LeavesOnly}
use Rattle.explorer_model.specs.declared.archive.Batch.{Batch}
use Rattle.explorer_model.specs.declared.archive.Game.{Game}
use Rattle.explorer_model.specs.declared.store.LogFault.{LogFault}
use Rattle.explorer_model.specs.Journal.{IsSound}
use Rattle.explorer_model.specs.Timeline.{IsPrefix}
use Rattle.explorer_model.specs.Visits.{AreGamesOf}
use Rattle.record_log.specs.Log.{EachImage}
use Rattle.manifest.specs.Manifest.{HasJournal, IsManifestOf, IsWithOrWithoutBatch}
use Rattle.tally_rows.specs.Tally.{Counted}
use Rattle.ingest_desk.specs.Causes.{cause}
use Rattle.ingest_desk.specs.Commits.{StoresBy}
use Rattle.ingest_desk.specs.Kept.{Keeps}
use Rattle.ingest_desk.specs.Lives.{Life, LifeEvent, Reopened, IsAllowed, after}
use Rattle.ingest_desk.specs.Lives as lives
use Rattle.ingest_desk.specs.Openings.{IsWrong}
use Rattle.ingest_desk.specs.Stored.{Stored, journal}
use Rattle.ingest_desk.specs.declared.fault.CommitFault.{CommitFault}
use Rattle.ingest_desk.specs.declared.fault.CommitFault.TheVariants as faults
use Rattle.ingest_desk.specs.declared.receipt.Receipt.{Receipt}

-- ---- files and stores

-- a file has the journal of the life once that is opened again, and it is sound
pub record ReopensTo (life : Life) (file : List ℕ) : Type 0 where
  pub stands : Bool
  pub has : HasJournal (after life (Reopened stands)).journal file
  pub sound : IsSound (after life (Reopened stands)).journal

-- a batch is pending exactly where a disk fault closed the store
abbrev pub IsPending : Option Batch → Option (ℕ × ℕ) → Type 0
IsPending None None = ⊤
IsPending (Some batch) (Some counts) = ⊤
IsPending _ _ = ⊥

-- The store has lived so: its journal is the life's, the batch that failed is pending, and each file
-- that a crash leaves has the journal that the life has once it is opened again. That is sound with
-- the pending batch and without.
pub record HasLived {D : Type 0} (disk : D → DiskState) (left_since : D → ℕ → List ℕ → Type 0)
    (life : Life) (store : Stored D) : Type 0 where
  pub journal_is : journal store ≡ life.journal
  pub failed_is : store.failed ≡ life.pending
  pub closed : IsPending life.pending store.manifest.fault
  pub sound : (stands : Bool) → IsSound (after life (Reopened stands)).journal
  pub images : EachImage disk left_since store.manifest.disk (ReopensTo life)

-- ---- commits

-- the event that an answer of a commit is; none where the store is as it was
abbrev pub event_of : {J : Type 0} → Result (Receipt J) (CommitFault J) → Batch → Option LifeEvent
event_of (Ok receipt) batch = Some (lives.Stored batch)
event_of (Err (faults.OutOfMemory true)) batch = Some (lives.Kept batch)
event_of (Err (faults.DiskFault before later mark)) batch = Some (lives.Failed batch)
event_of (Err _) batch = None

-- what the clauses of `commit`, and behind it those of `batches`, say of what is stored
pub record IsCommit {D J : Type 0} (disk : D → DiskState) (left_since : D → ℕ → List ℕ → Type 0)
    (tally : Counted) (old new : Stored D) (answer : Result (Receipt J) (CommitFault J))
    : Type 0 where
  pub store : StoresBy disk tally old new answer
  pub was_sound : IsSound (journal old)
  pub crash : old.manifest.fault ≡ None → LeavesOnly disk left_since
      old.manifest.disk new.manifest.disk (IsWithOrWithoutBatch (journal old) tally.batch)
  pub behind : (games : List Game) → AreGamesOf (journal old) games
      → cause old.manifest.fault games (journal old) tally ≡ None
      → IsSound (journal old ++ tally.batch ∷ [])
  pub sound : IsSound (journal new)
  pub keeps : Keeps disk left_since (journal new) new.manifest new.failed

-- the life goes on by the event, which is allowed; without one the store has lived as before
abbrev pub LivesOn : {D : Type 0} → (D → DiskState) → (D → ℕ → List ℕ → Type 0) → Life
    → Option LifeEvent → Stored D → Type 0
LivesOn disk left_since life None store = HasLived disk left_since life store
LivesOn disk left_since life (Some event) store =
    IsAllowed life event × HasLived disk left_since (after life event) store

-- a call of the disk failed, with these counts of its faults
abbrev pub HasFailedBy : {J : Type 0} → ℕ → ℕ → Result (Receipt J) (CommitFault J) → Type 0
HasFailedBy before later (Err (faults.DiskFault b l mark)) = (b ≡ before) × (l ≡ later)
HasFailedBy before later _ = ⊥

-- the store is closed, with these counts
abbrev pub IsClosedBy : {J : Type 0} → ℕ → ℕ → Result (Receipt J) (CommitFault J) → Type 0
IsClosedBy before later (Err (faults.Closed b l mark)) = (b ≡ before) × (l ≡ later)
IsClosedBy before later _ = ⊥

-- a call stores nothing: `catch_up`, `install`, `tell` and `confirm`
pub record StoresNothing {D : Type 0} (old new : Stored D) : Type 0 where
  pub journal_is : journal new ≡ journal old
  pub manifest_is : new.manifest ≡ old.manifest
  pub failed_is : new.failed ≡ old.failed

-- ---- openings

-- a new store
pub record IsFresh {D : Type 0} (disk : D → DiskState) (left_since : D → ℕ → List ℕ → Type 0)
    (store : Stored D) : Type 0 where
  pub empty : journal store ≡ []
  pub none_failed : store.failed ≡ None
  pub manifest : IsManifestOf disk left_since [] store.manifest

-- what the clauses of `open` say of a file that the disk tells, and of the store that was opened
pub record IsOpening {D : Type 0} (disk : D → DiskState) (left_since : D → ℕ → List ℕ → Type 0)
    (file : List ℕ) (store : Stored D) : Type 0 where
  pub read : HasJournal (journal store) file
  pub sound : store.manifest.fault ≡ None
  pub none_failed : store.failed ≡ None
  pub recounted : IsSound (journal store)
  pub images : EachImage disk left_since store.manifest.disk (HasJournal (journal store))

-- nothing is wrong with a file: it is a store, of this format and not damaged
abbrev pub IsRight : List ℕ → Type 0
IsRight file = (fault : LogFault) → ¬ IsWrong fault file

-- the life goes on by an opening
abbrev pub IsReopened : {D : Type 0} → (D → DiskState) → (D → ℕ → List ℕ → Type 0) → Life
    → Stored D → Type 0
IsReopened disk left_since life store =
    (stands : Bool) × HasLived disk left_since (after life (Reopened stands)) store

-- ---- what was told

-- a file has a journal that begins with this one
pub record BeginsWith (front : List Batch) (file : List ℕ) : Type 0 where
  pub whole : List Batch
  pub begins : IsPrefix front whole
  pub has : HasJournal whole file

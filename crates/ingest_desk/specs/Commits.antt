-- Statement: what a commit answers, and what it leaves, by its answer.
use Rattle.std.specs.Prelude.{◌≡◌, ◌⊎◌, ◌≢◌, ℕ, ◌+◌, true, false, List, [], ◌∷◌, ◌++◌, length, Option, None, Some, Result, Ok, Err}
use Rattle.disk_model.specs.Disk.{DiskState}
use Rattle.explorer_model.specs.declared.archive.Batch.{Batch}
use Rattle.explorer_model.specs.declared.archive.Game.{Game}
use Rattle.explorer_model.specs.Journal.{game_count}
use Rattle.explorer_model.specs.StoreFile.{payload_of}
use Rattle.explorer_model.specs.Visits.{AreGamesOf}
use Rattle.record_log.specs.Log.{Adds, Breaks, EachImage}
use Rattle.record_log.specs.declared.fault.AppendFault.{AppendFault}
use Rattle.record_log.specs.declared.fault.AppendFault.TheVariants as appends
use Rattle.manifest.specs.Manifest.{HasJournal}
use Rattle.tally_rows.specs.Tally.{Counted}
use Rattle.segment_blocks.specs.Segment.{CountedSpan, IsSegment}
use Rattle.published_index.specs.Changes.{AddOf, Change}
use Rattle.published_index.specs.Places.{Drawing, with_place}
use Rattle.ingest_desk.specs.Causes.{Cause, HasIds, HasNoRoom, IsClosed, cause}
use Rattle.ingest_desk.specs.Installs.{list_by}
use Rattle.ingest_desk.specs.Listing.{MakesRoom, PublishesBatch}
use Rattle.ingest_desk.specs.Marked.{IsMark, Marked}
use Rattle.ingest_desk.specs.Stored.{Stored, journal}
use Rattle.ingest_desk.specs.declared.clashing.Clashing.{Clashing}
use Rattle.ingest_desk.specs.declared.fault.CommitFault.{CommitFault}
use Rattle.ingest_desk.specs.declared.fault.CommitFault.TheVariants as faults
use Rattle.ingest_desk.specs.declared.mark.MarkKind.TheVariants as kinds
use Rattle.ingest_desk.specs.declared.receipt.Receipt.{Receipt}

-- ---- what is against a batch

-- no earlier commit met a disk fault
abbrev pub IsOpenBy : Option Cause → Type 0
IsOpenBy (Some (IsClosed before after)) = ⊥
IsOpenBy _ = Unit {0}

-- Want of memory before the batch is stored comes where nothing else is against it, or where a
-- change was held in a store that is not closed.
abbrev pub MayLack : Option Cause → Option Change → Type 0
MayLack cause held = (cause ≡ None) ⊎ ((held ≢ None) × IsOpenBy cause)

-- this is the first cause not to store the batch, or none is
abbrev pub HasCause : {D : Type 0} → Counted → Stored D → Option Cause → Type 0
HasCause tally old why = (games : List Game) → AreGamesOf (journal old) games
    → cause old.manifest.fault games (journal old) tally ≡ why

-- ---- what becomes of what is stored

-- nothing is against the batch, and it stands behind the journal
pub record AddsBatch {D : Type 0} (disk : D → DiskState) (tally : Counted) (old new : Stored D)
    : Type 0 where
  pub refused : HasCause tally old None
  pub stores : journal new ≡ journal old ++ tally.batch ∷ []
  pub manifest : Adds disk (length (payload_of tally.batch)) old.manifest new.manifest
  pub failed : new.failed ≡ old.failed

-- nothing is against the batch, but a call of the disk fails: that closes the store, with these
-- counts, and the batch is the one that failed
pub record BreaksOff {D : Type 0} (disk : D → DiskState) (before after : ℕ) (tally : Counted)
    (old new : Stored D) : Type 0 where
  pub refused : HasCause tally old None
  pub stores : journal new ≡ journal old
  pub manifest : Breaks disk before after old.manifest new.manifest
  pub failed : new.failed ≡ Some tally.batch

-- this is against the batch, and what is stored is as it was
pub record Refuses {D : Type 0} (why : Cause) (tally : Counted) (old new : Stored D)
    : Type 0 where
  pub refused : HasCause tally old (Some why)
  pub stores : journal new ≡ journal old
  pub manifest : new.manifest ≡ old.manifest
  pub failed : new.failed ≡ old.failed

-- memory is wanting before the batch is stored, and what is stored is as it was
pub record Lacks {D : Type 0} (tally : Counted) (old new : Stored D) : Type 0 where
  pub refused : (games : List Game) → AreGamesOf (journal old) games
      → MayLack (cause old.manifest.fault games (journal old) tally) old.index.held
  pub stores : journal new ≡ journal old
  pub manifest : new.manifest ≡ old.manifest
  pub failed : new.failed ≡ old.failed

-- what becomes of it by the answer; this alone is what a store's life tells
abbrev pub StoresBy : {D J : Type 0} → (D → DiskState) → Counted → Stored D → Stored D
    → Result (Receipt J) (CommitFault J) → Type 0
StoresBy disk tally old new (Ok receipt) = AddsBatch disk tally old new
StoresBy disk tally old new (Err (faults.Closed before after mark)) =
    Refuses (IsClosed before after) tally old new
StoresBy disk tally old new (Err (faults.Clash handed pairs note)) =
    Refuses (HasIds pairs.items) tally old new
StoresBy disk tally old new (Err (faults.Full games bytes note)) =
    Refuses (HasNoRoom games bytes) tally old new
StoresBy disk tally old new (Err (faults.DiskFault before after mark)) =
    BreaksOff disk before after tally old new
StoresBy disk tally old new (Err (faults.OutOfMemory true)) = AddsBatch disk tally old new
StoresBy disk tally old new (Err (faults.OutOfMemory false)) = Lacks tally old new

-- ---- the answers

-- the receipt of a batch behind a journal
pub record IsReceiptOf {J : Type 0} (receipt : Receipt J) (old : List Batch)
    (batch : Batch) : Type 0 where
  pub batches : receipt.batches ≡ length old + 1
  pub first : receipt.first ≡ game_count old
  pub games : receipt.games ≡ length batch.texts

-- the batch waits to be published behind the list
pub record Waits (batch : Batch) (held : Option Change) : Type 0 where
  pub segment : CountedSpan
  pub held_is : held ≡ Some (AddOf segment)
  pub batch_is : segment.span.batches ≡ batch ∷ []
  pub counts : IsSegment segment

-- A tally is committed to a store, which is old before and new behind it, by a drawer that had drawn
-- some places before and has drawn these behind it. Where there is a note, it has the whole journal,
-- and all of it is published.
module _ {D : Type 0} (disk : D → DiskState) (left_since : D → ℕ → List ℕ → Type 0)
    (tally : Counted) (old new : Stored D) (had has : Drawing) where
  -- The batch is stored, its place drawn, and all is published. A crash leaves just the journal.
  pub record Acknowledges {J : Type 0} (answer : Receipt J) : Type 0 where
    pub store : AddsBatch disk tally old new
    pub drawn : has ≡ with_place (length (journal old)) had
    pub receipt : IsReceiptOf answer (journal old) tally.batch
    pub told : answer.note ≡ journal new
    pub none_held : new.index.held ≡ None
    pub list : PublishesBatch tally.batch old.index new.index.list
    pub kept : EachImage disk left_since new.manifest.disk (HasJournal (journal new))

  -- an earlier commit met a disk fault, with these counts, which the mark has too
  pub record MeetsClosed (before after : ℕ) (mark : Marked) : Type 0 where
    pub store : Refuses (IsClosed before after) tally old new
    pub drawn : has ≡ had
    pub marked : IsMark kinds.Closed before after None mark
    pub list : new.index.list ≡ old.index.list

  -- ids of the batch are stored, and the tally is handed back; what was held is published
  pub record MeetsClash (handed : Counted) (pairs : List Clashing) (note : List Batch)
      : Type 0 where
    pub store : Refuses (HasIds pairs) tally old new
    pub drawn : has ≡ had
    pub back : handed ≡ tally
    pub told : note ≡ journal new
    pub none_held : new.index.held ≡ None
    pub list : new.index.list ≡ list_by old.index

  -- a limit would be passed, and so much is stored; what was held is published
  pub record MeetsFull (games bytes : ℕ) (note : List Batch) : Type 0 where
    pub store : Refuses (HasNoRoom games bytes) tally old new
    pub drawn : has ≡ had
    pub told : note ≡ journal new
    pub none_held : new.index.held ≡ None
    pub list : new.index.list ≡ list_by old.index

  -- a call of the disk failed, and the mark has its counts and the batch
  pub record MeetsFault (before after : ℕ) (mark : Marked) : Type 0 where
    pub store : BreaksOff disk before after tally old new
    pub drawn : has ≡ had
    pub none_held : new.index.held ≡ None
    pub marked : IsMark kinds.DiskFault before after (Some tally.batch) mark
    pub list : MakesRoom (list_by old.index) new.index.list

  -- the batch is stored, its place drawn, and it waits for memory to be published
  pub record HoldsBatch : Type 0 where
    pub store : AddsBatch disk tally old new
    pub drawn : has ≡ with_place (length (journal old)) had
    pub holds : Waits tally.batch new.index.held
    pub list : MakesRoom (list_by old.index) new.index.list

  -- memory was wanting before
  pub record LacksMemory : Type 0 where
    pub store : Lacks tally old new
    pub drawn : has ≡ had

  -- a commit, by its answer
  abbrev pub CommitsBy : {J : Type 0} → Result (Receipt J) (CommitFault J) → Type 0
  CommitsBy (Ok receipt) = Acknowledges receipt
  CommitsBy (Err (faults.Closed before after mark)) = MeetsClosed before after mark
  CommitsBy (Err (faults.Clash handed pairs note)) = MeetsClash handed pairs.items note
  CommitsBy (Err (faults.Full games bytes note)) = MeetsFull games bytes note
  CommitsBy (Err (faults.DiskFault before after mark)) = MeetsFault before after mark
  CommitsBy (Err (faults.OutOfMemory true)) = HoldsBatch
  CommitsBy (Err (faults.OutOfMemory false)) = LacksMemory

-- ---- where the manifest has not taken a batch

-- the answer for its fault, whose mark names the batch that failed
abbrev pub IsFaultOf : {J : Type 0} → AppendFault → Batch → CommitFault J → Type 0
IsFaultOf (appends.Closed before after) batch (faults.Closed before' after' mark) =
    (before' ≡ before) × (after' ≡ after) × IsMark kinds.Closed before' after' None mark
IsFaultOf (appends.DiskFault before after) batch (faults.DiskFault before' after' mark) =
    (before' ≡ before) × (after' ≡ after) × IsMark kinds.DiskFault before' after' (Some batch) mark
IsFaultOf appends.OutOfMemory batch (faults.OutOfMemory stored) = stored ≡ false
IsFaultOf _ batch _ = ⊥

-- the batch that failed
abbrev pub failed_after : AppendFault → Batch → Option Batch
failed_after (appends.DiskFault before after) batch = Some batch
failed_after _ batch = None

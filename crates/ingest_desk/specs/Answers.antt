-- Statement: what the answer of a commit tells by itself, of which it has one.
use Rattle.std.specs.Prelude.{◌≡◌, ℕ, ⊤, true, false, List, [], ◌∷◌, ◌++◌, length, Option, None, Some, Result, Ok, Err}
use Rattle.disk_model.specs.Disk.{DiskState}
use Rattle.explorer_model.specs.declared.archive.Batch.{Batch}
use Rattle.explorer_model.specs.declared.archive.Game.{Game}
use Rattle.explorer_model.specs.StoreFile.{payload_of}
use Rattle.record_log.specs.Log.{Adds, Breaks, Log}
use Rattle.tally_rows.specs.Tally.{Counted}
use Rattle.published_index.specs.Changes.{Change}
use Rattle.published_index.specs.Places.{Drawing, with_place}
use Rattle.ingest_desk.specs.Causes.{Cause, HasIds, HasNoRoom, IsClosed, cause}
use Rattle.ingest_desk.specs.Commits.{IsReceiptOf, MayLack}
use Rattle.ingest_desk.specs.Marked.{IsMark}
use Rattle.ingest_desk.specs.declared.fault.CommitFault.{CommitFault}
use Rattle.ingest_desk.specs.declared.fault.CommitFault.TheVariants as faults
use Rattle.ingest_desk.specs.declared.mark.MarkKind.TheVariants as kinds
use Rattle.ingest_desk.specs.declared.receipt.Receipt.{Receipt}

-- The answer, with the first cause not to store the tally's batch, where the journal was this and the
-- manifest was old before and new behind it.
abbrev pub IsAnswerBy : {D J : Type 0} → (D → DiskState) → Counted → Option Cause → List Batch
    → Option Change → Log D → Log D → Result (Receipt J) (CommitFault J) → Type 0
IsAnswerBy disk tally why journal held old new (Ok receipt) =
    (why ≡ None) × Adds disk (length (payload_of tally.batch)) old new
    × IsReceiptOf receipt journal tally.batch × (receipt.note ≡ journal ++ tally.batch ∷ [])
IsAnswerBy disk tally why journal held old new (Err (faults.Closed before after mark)) =
    (why ≡ Some (IsClosed before after)) × (new ≡ old) × IsMark kinds.Closed before after None mark
IsAnswerBy disk tally why journal held old new (Err (faults.Clash handed pairs note)) =
    (why ≡ Some (HasIds pairs.items)) × (new ≡ old) × (handed ≡ tally) × (note ≡ journal)
IsAnswerBy disk tally why journal held old new (Err (faults.Full games bytes note)) =
    (why ≡ Some (HasNoRoom games bytes)) × (new ≡ old) × (note ≡ journal)
IsAnswerBy disk tally why journal held old new (Err (faults.DiskFault before after mark)) =
    (why ≡ None) × Breaks disk before after old new
    × IsMark kinds.DiskFault before after (Some tally.batch) mark
IsAnswerBy disk tally why journal held old new (Err (faults.OutOfMemory true)) =
    (why ≡ None) × Adds disk (length (payload_of tally.batch)) old new
IsAnswerBy disk tally why journal held old new (Err (faults.OutOfMemory false)) =
    MayLack why held × (new ≡ old)

-- the tally was committed behind these games and this journal, with a change held or none
abbrev pub IsAnswer : {D J : Type 0} → (D → DiskState) → Counted → List Game → List Batch
    → Option Change → Log D → Log D → Result (Receipt J) (CommitFault J) → Type 0
IsAnswer disk tally games journal held old new answer =
    IsAnswerBy disk tally (cause old.fault games journal tally) journal held old new answer

-- memory was there
abbrev pub HadMemory : {J : Type 0} → Result (Receipt J) (CommitFault J) → Type 0
HadMemory (Err (faults.OutOfMemory stored)) = ⊥
HadMemory _ = ⊤

-- the drawer has drawn the place of the batch where it is stored, and else nothing
abbrev pub Draws : {J : Type 0} → Result (Receipt J) (CommitFault J) → ℕ → Drawing → Drawing → Type 0
Draws (Ok receipt) place old new = new ≡ with_place place old
Draws (Err (faults.OutOfMemory true)) place old new = new ≡ with_place place old
Draws (Err _) place old new = new ≡ old

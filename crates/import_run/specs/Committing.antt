-- Statement: what a commit does to a store, as it is told by one who stores there.
use Rattle.std.specs.Prelude.{◌≡◌, ◌≢◌, ℕ, true, false, List, [], ◌∷◌, ◌++◌, Option, None, Some, Result, Ok, Err}
use Rattle.explorer_model.specs.declared.archive.Batch.{Batch}
use Rattle.explorer_model.specs.declared.archive.Game.{Game}
use Rattle.explorer_model.specs.Imports.{numbers_of}
use Rattle.explorer_model.specs.Visits.{AreGamesOf}
use Rattle.published_index.specs.Changes.{Change}
use Rattle.tally_rows.specs.Tally.{Counted}
use Rattle.ingest_desk.specs.Causes.{Cause, HasIds, HasNoRoom, IsClosed, cause}
use Rattle.ingest_desk.specs.Clashes.{clashes_of}
use Rattle.ingest_desk.specs.Commits.{IsReceiptOf, MayLack}
use Rattle.ingest_desk.specs.Marked.{IsMark}
use Rattle.ingest_desk.specs.declared.fault.CommitFault.{CommitFault}
use Rattle.ingest_desk.specs.declared.fault.CommitFault.TheVariants as faults
use Rattle.ingest_desk.specs.declared.mark.MarkKind.TheVariants as kinds
use Rattle.ingest_desk.specs.declared.receipt.Receipt.{Receipt}

-- the stored journal, and the counts of the disk fault that closed the store, if one did, with the
-- batch that failed
pub record Store : Type 0 where
  pub journal : List Batch
  pub fault : Option (ℕ × ℕ)
  pub failed : Option Batch

-- the same with the games of the journal
pub record Known : Type 0 where
  pub journal : List Batch
  pub fault : Option (ℕ × ℕ)
  pub failed : Option Batch
  pub games : List Game
  pub are_games : AreGamesOf journal games

abbrev pub store_of : Known → Store
store_of known =
    record { journal = known.journal; fault = known.fault; failed = known.failed }

-- ---- what a commit does to a store that is known

-- the first cause not to store the tally's batch
abbrev pub cause_in : Known → Counted → Option Cause
cause_in known tally = cause known.fault known.games known.journal tally

-- nothing is against the batch, and it stands behind the journal
pub record AddsBatch (known : Known) (tally : Counted) (new : Store) : Type 0 where
  pub refused : cause_in known tally ≡ None
  pub stores : new.journal ≡ known.journal ++ tally.batch ∷ []
  pub fault : new.fault ≡ known.fault
  pub fails : new.failed ≡ known.failed

-- nothing is against the batch, but a disk fault with these counts closes the store
pub record BreaksOff (before after : ℕ) (known : Known) (tally : Counted) (new : Store)
    : Type 0 where
  pub refused : cause_in known tally ≡ None
  pub stores : new.journal ≡ known.journal
  pub was_open : known.fault ≡ None
  pub fault : new.fault ≡ Some (before, after)
  pub fails : new.failed ≡ Some tally.batch

-- this is against the batch, and the store is as it was
pub record Refuses (why : Cause) (known : Known) (tally : Counted) (new : Store) : Type 0 where
  pub refused : cause_in known tally ≡ Some why
  pub stores : new.journal ≡ known.journal
  pub fault : new.fault ≡ known.fault
  pub fails : new.failed ≡ known.failed

-- memory is wanting before the batch is stored, whatever is held there
pub record Lacks (known : Known) (tally : Counted) (new : Store) : Type 0 where
  pub held : Option Change
  pub refused : MayLack (cause_in known tally) held
  pub stores : new.journal ≡ known.journal
  pub fault : new.fault ≡ known.fault
  pub fails : new.failed ≡ known.failed

-- the games of the journal are those that are known
abbrev pub AreKnown : Known → List Batch → Type 0
AreKnown known journal = (games : List Game) → AreGamesOf journal games → games ≡ known.games

-- By the answer. The note of a receipt, and of a full store, has the whole journal.
abbrev pub CommitsTo : {J : Type 0} → Known → Counted → Store
    → Result (Receipt J) (CommitFault J) → Type 0
CommitsTo known tally new (Ok receipt) =
    AddsBatch known tally new × IsReceiptOf receipt known.journal tally.batch
    × (receipt.note ≡ new.journal)
CommitsTo known tally new (Err (faults.Closed before after mark)) =
    Refuses (IsClosed before after) known tally new × IsMark kinds.Closed before after None mark
CommitsTo known tally new (Err (faults.Clash handed pairs note)) =
    Refuses (HasIds pairs.items) known tally new × (handed ≡ tally) × AreKnown known note
CommitsTo known tally new (Err (faults.Full games bytes note)) =
    Refuses (HasNoRoom games bytes) known tally new × (note ≡ new.journal)
CommitsTo known tally new (Err (faults.DiskFault before after mark)) =
    BreaksOff before after known tally new
    × IsMark kinds.DiskFault before after (Some tally.batch) mark
CommitsTo known tally new (Err (faults.OutOfMemory true)) = AddsBatch known tally new
CommitsTo known tally new (Err (faults.OutOfMemory false)) = Lacks known tally new

-- the store that is told then is what the commit left
pub record Commits {J : Type 0} (result : Result (Receipt J) (CommitFault J))
    (known : Known) (tally : Counted) (told : Option Store) : Type 0 where
  pub new : Store
  pub still : told ≡ Some new
  pub by : CommitsTo known tally new result

-- ---- a clash

-- A clash hands the tally back, and some of its ids are stored: those that have a number by the
-- games of the note's journal.
abbrev pub IsClash : {J : Type 0} → Result (Receipt J) (CommitFault J) → Counted → Type 0
IsClash (Err (faults.Clash handed pairs note)) tally =
    (handed ≡ tally) × ((pairs.items ≢ []) × ((games : List Game) × (AreGamesOf note games
    × (pairs.items ≡ clashes_of (numbers_of games) tally.classes))))
IsClash _ tally = Unit {0}

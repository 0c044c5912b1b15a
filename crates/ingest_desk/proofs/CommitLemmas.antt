-- A commit by its answer: over a store that has caught up and has room, and where its batch is not
-- taken.
use Rattle.std.proofs.Common.{◌≡◌, ◌<◌, ◌+◌, inl, ℕ, true, false, List, [], ◌∷◌, ◌++◌, length, Option, None, Some, Result, Ok, Err, refl, sym, ap, ◌∙◌, subst, arith}
use Rattle.std.proofs.lemmas.Option.{none-some}
use Rattle.plain_laws.specs.Options.{some-none}
use Rattle.disk_model.specs.Disk.{DiskState}
use Rattle.explorer_model.specs.declared.archive.Batch.{Batch}
use Rattle.explorer_model.specs.declared.archive.Game.{Game}
use Rattle.explorer_model.specs.Journal.{IsSound, game_count}
use Rattle.explorer_model.specs.StoreFile.{payload_of}
use Rattle.explorer_model.specs.Visits.{AreGamesOf}
use Rattle.record_log.specs.Log.{Adds, Breaks, EachImage, IsNotAdded, Log}
use Rattle.record_log.specs.declared.fault.AppendFault.{AppendFault}
use Rattle.record_log.specs.declared.fault.AppendFault.TheVariants as appends
use Rattle.manifest.specs.Manifest.{HasJournal}
use Rattle.tally_rows.specs.Tally.{Counted}
use Rattle.segment_blocks.specs.Segment.{CountedSpan, IsSegment}
use Rattle.published_index.specs.Calls.{Holds, Publishes}
use Rattle.published_index.specs.Changes.{AddOf}
use Rattle.published_index.specs.Cover.{journal_of, list_limit}
use Rattle.published_index.specs.Places.{Drawing, with_place}
use Rattle.published_index.specs.States.{Publishing, journal_by}
use Rattle.ingest_desk.specs.Causes.{Cause, cause, cause_of_new}
use Rattle.ingest_desk.specs.Commits.{Acknowledges, AddsBatch, CommitsBy, HasCause, HoldsBatch, IsFaultOf, IsReceiptOf, LacksMemory, MeetsFault, StoresBy, failed_after}
use Rattle.ingest_desk.specs.Installs.{list_by}
use Rattle.ingest_desk.specs.Listing.{MakesRoom, PutsBehind}
use Rattle.ingest_desk.specs.Marked.{IsMark, Marked}
use Rattle.ingest_desk.specs.Stored.{Stored, journal}
use Rattle.ingest_desk.specs.declared.fault.CommitFault.{CommitFault}
use Rattle.ingest_desk.specs.declared.fault.CommitFault.TheVariants as faults
use Rattle.ingest_desk.specs.declared.mark.MarkKind.TheVariants as kinds
use Rattle.ingest_desk.specs.declared.receipt.Receipt.{Receipt}
use Rattle.ingest_desk.proofs.KeptLemmas.{listed, made, not_behind}

-- ---- what is against a batch

-- where nothing is against a batch behind a journal, in a store that is open
pub uncaused : {D : Type 0} (tally : Counted) (old : Stored D) → old.manifest.fault ≡ None
    → ((games : List Game) → AreGamesOf (journal old) games → cause_of_new games (journal old) tally ≡ None)
    → HasCause tally old None
uncaused tally old open_is fits games are =
    ap (λ (f : Option (ℕ × ℕ)). cause f games (journal old) tally) open_is ∙ fits games are

-- what becomes of what is stored
pub stores_by : {D J : Type 0} (disk : D → DiskState) (left_since : D → ℕ → List ℕ → Type 0) (tally : Counted)
    (old new : Stored D) (had has : Drawing) (answer : Result (Receipt J) (CommitFault J))
    → CommitsBy disk left_since tally old new had has answer → StoresBy disk tally old new answer
stores_by disk left_since tally old new had has (Ok receipt) is = is.store
stores_by disk left_since tally old new had has (Err (faults.Closed before after mark)) is = is.store
stores_by disk left_since tally old new had has (Err (faults.Clash handed pairs note)) is = is.store
stores_by disk left_since tally old new had has (Err (faults.Full games bytes note)) is = is.store
stores_by disk left_since tally old new had has (Err (faults.DiskFault before after mark)) is = is.store
stores_by disk left_since tally old new had has (Err (faults.OutOfMemory true)) is = is.store
stores_by disk left_since tally old new had has (Err (faults.OutOfMemory false)) is = is.store

-- ---- behind a list that caught up and has room

-- a list with room, and nothing held, is as it was
stays : {D : Type 0} (mid : Stored D) (new : List CountedSpan) → mid.index.held ≡ None
    → length mid.index.list < list_limit → MakesRoom (list_by mid.index) new → new ≡ mid.index.list
stays mid new none few room =
    let same = not_behind mid.index none in
    let short = subst (λ (l : List CountedSpan). length l < list_limit) (sym same) few in
    room.has_room short ∙ same

-- the store in the middle has the journal of the old one, and room behind its list
pub record CaughtUp {D : Type 0} (tally : Counted) (old mid : Stored D) : Type 0 where
  pub journal_is : journal mid ≡ journal old
  pub manifest_is : mid.manifest ≡ old.manifest
  pub failed_is : mid.failed ≡ old.failed
  pub sound : IsSound (journal mid)
  pub uncaused : HasCause tally mid None
  pub none_held : mid.index.held ≡ None
  pub few : length mid.index.list < list_limit
  pub room : MakesRoom (list_by old.index) mid.index.list

module _ {D : Type 0} (disk : D → DiskState) (left_since : D → ℕ → List ℕ → Type 0) (tally : Counted)
    (old mid new : Stored D) (had has : Drawing) (up : CaughtUp tally old mid) where
  same_cause : HasCause tally mid None → HasCause tally old None
  same_cause is games are =
      let G : List Batch → Type 0 = λ j. AreGamesOf j games in
      let J : List Batch → Type 0 = λ j. cause mid.manifest.fault games j tally ≡ None in
      let M : Log D → Type 0 = λ m. cause m.fault games (journal old) tally ≡ None in
      subst M up.manifest_is (subst J up.journal_is (is games (subst G (sym up.journal_is) are)))

  never : (why : Cause) → HasCause tally mid (Some why) → ⊥
  never why is =
      let games = up.sound.games in
      let are = up.sound.are_games in
      none-some why (sym (up.uncaused games are) ∙ is games are)

  adds : AddsBatch disk tally mid new → AddsBatch disk tally old new
  adds is = record {
    refused = same_cause is.refused;
    stores = is.stores ∙ ap (λ (j : List Batch). j ++ tally.batch ∷ []) up.journal_is;
    manifest = subst (λ (m : Log D). Adds disk (length (payload_of tally.batch)) m new.manifest) up.manifest_is is.manifest;
    failed = is.failed ∙ up.failed_is;
  }

  place : has ≡ with_place (length (journal mid)) had → has ≡ with_place (length (journal old)) had
  place is = is ∙ ap (λ (j : List Batch). with_place (length j) had) up.journal_is

  roomy : (list : List CountedSpan) → MakesRoom (list_by mid.index) list → MakesRoom (list_by old.index) list
  roomy list room = subst (MakesRoom (list_by old.index)) (sym (stays mid list up.none_held up.few room)) up.room

  pub carried : {J : Type 0} (answer : Result (Receipt J) (CommitFault J))
      → CommitsBy disk left_since tally mid new had has answer → CommitsBy disk left_since tally old new had has answer
  carried (Ok receipt) is = record {
    store = adds is.store;
    drawn = place is.drawn;
    receipt = record {
      batches = is.receipt.batches ∙ ap (λ (j : List Batch). length j + 1) up.journal_is;
      first = is.receipt.first ∙ ap game_count up.journal_is;
      games = is.receipt.games;
    };
    told = is.told;
    none_held = is.none_held;
    list = record {
      roomy = mid.index.list;
      room = up.room;
      puts = subst (λ (l : List CountedSpan). PutsBehind tally.batch l new.index.list)
          (stays mid is.list.roomy up.none_held up.few is.list.room) is.list.puts;
    };
    kept = is.kept;
  }
  carried (Err (faults.Closed before after mark)) is = absurd (never _ is.store.refused)
  carried (Err (faults.Clash handed pairs note)) is = absurd (never _ is.store.refused)
  carried (Err (faults.Full games bytes note)) is = absurd (never _ is.store.refused)
  carried (Err (faults.DiskFault before after mark)) is = record {
    store = record {
      refused = same_cause is.store.refused;
      stores = is.store.stores ∙ up.journal_is;
      manifest = subst (λ (m : Log D). Breaks disk before after m new.manifest) up.manifest_is is.store.manifest;
      failed = is.store.failed;
    };
    drawn = is.drawn;
    none_held = is.none_held;
    marked = is.marked;
    list = roomy new.index.list is.list;
  }
  carried (Err (faults.OutOfMemory true)) is = record {
    store = adds is.store;
    drawn = place is.drawn;
    holds = is.holds;
    list = roomy new.index.list is.list;
  }
  carried (Err (faults.OutOfMemory false)) is = record {
    store = record {
      refused = λ games are. inl (same_cause up.uncaused games are);
      stores = is.store.stores ∙ up.journal_is;
      manifest = is.store.manifest ∙ up.manifest_is;
      failed = is.store.failed ∙ up.failed_is;
    };
    drawn = is.drawn;
  }

-- ---- a batch that the manifest does not take

-- a list that has room is what room is made of
pub has_room : (list : List CountedSpan) → length list < list_limit → MakesRoom list list
has_room list few = record {
  has_room = λ _. refl;
  is_full = λ full. absurd (omega (arith, few, full));
}

-- the answer for a fault of the disk
record AnswersFault {J : Type 0} (before after : ℕ) (batch : Batch) (answer : CommitFault J) : Type 0 where
  mark : Marked
  is : answer ≡ faults.DiskFault before after mark
  marked : IsMark kinds.DiskFault before after (Some batch) mark

answers_fault : {J : Type 0} (before after : ℕ) (batch : Batch) (answer : CommitFault J)
    → IsFaultOf (appends.DiskFault before after) batch answer → AnswersFault before after batch answer
answers_fault before after batch (faults.DiskFault b a mark) is = record {
  mark = mark;
  is = λ i. faults.DiskFault (is.0 i) (is.1 i) mark;
  marked = subst (λ (y : ℕ). IsMark kinds.DiskFault before y (Some batch) mark) is.1
      (subst (λ (x : ℕ). IsMark kinds.DiskFault x a (Some batch) mark) is.0 is.2);
}
answers_fault before after batch (faults.Closed b a mark) is = absurd is
answers_fault before after batch (faults.Clash handed pairs note) is = absurd is
answers_fault before after batch (faults.Full games bytes note) is = absurd is
answers_fault before after batch (faults.OutOfMemory stored) is = absurd is

-- the answer for want of memory
answers_lack : {J : Type 0} (batch : Batch) (answer : CommitFault J)
    → IsFaultOf appends.OutOfMemory batch answer → answer ≡ faults.OutOfMemory false
answers_lack batch (faults.OutOfMemory stored) is = λ i. faults.OutOfMemory (is i)
answers_lack batch (faults.Closed b a mark) is = absurd is
answers_lack batch (faults.Clash handed pairs note) is = absurd is
answers_lack batch (faults.Full games bytes note) is = absurd is
answers_lack batch (faults.DiskFault b a mark) is = absurd is

-- the store behind a batch that the manifest did not take: but for the manifest, and the batch that
-- failed, it is as it was
pub record IsNotTaken {D : Type 0} (disk : D → DiskState) (tally : Counted) (old new : Stored D)
    (fault : AppendFault) : Type 0 where
  pub uncaused : HasCause tally old None
  pub open_is : old.manifest.fault ≡ None
  pub none_held : old.index.held ≡ None
  pub few : length old.index.list < list_limit
  pub none_failed : old.failed ≡ None
  pub index_is : new.index ≡ old.index
  pub manifest : IsNotAdded disk fault old.manifest new.manifest
  pub failed : new.failed ≡ failed_after fault tally.batch

module _ {D : Type 0} (disk : D → DiskState) (left_since : D → ℕ → List ℕ → Type 0) (tally : Counted)
    (old new : Stored D) (drawer : Drawing) where
  meets_fault : (before after : ℕ) (mark : Marked) → IsNotTaken disk tally old new (appends.DiskFault before after)
      → IsMark kinds.DiskFault before after (Some tally.batch) mark
      → MeetsFault disk left_since tally old new drawer drawer before after mark
  meets_fault before after mark not marked = record {
    store = record {
      refused = not.uncaused;
      stores = ap (λ (i : Publishing). journal_by i) not.index_is;
      manifest = not.manifest;
      failed = not.failed;
    };
    drawn = refl;
    none_held = ap (λ (i : Publishing). i.held) not.index_is ∙ not.none_held;
    marked = marked;
    list = subst (MakesRoom (list_by old.index)) (sym (ap (λ (i : Publishing). i.list) not.index_is))
        (subst (λ (l : List CountedSpan). MakesRoom l old.index.list) (sym (not_behind old.index not.none_held))
        (has_room old.index.list not.few));
  }

  lacks : IsNotTaken disk tally old new appends.OutOfMemory
      → LacksMemory disk left_since tally old new drawer drawer
  lacks not = record {
    store = record {
      refused = λ games are. inl (not.uncaused games are);
      stores = ap (λ (i : Publishing). journal_by i) not.index_is;
      manifest = not.manifest.same;
      failed = not.failed ∙ sym not.none_failed;
    };
    drawn = refl;
  }

  pub not_taken : {J : Type 0} (fault : AppendFault) (answer : CommitFault J) → IsNotTaken disk tally old new fault
      → IsFaultOf fault tally.batch answer → CommitsBy disk left_since tally old new drawer drawer (Err answer)
  not_taken (appends.Closed b a) answer not is =
      absurd (some-none (b, a) (sym not.manifest.was ∙ not.open_is))
  not_taken (appends.DiskFault b a) answer not is =
      let answers = answers_fault b a tally.batch answer is in
      subst (λ (f : CommitFault _). CommitsBy disk left_since tally old new drawer drawer (Err f)) (sym answers.is)
      (meets_fault b a answers.mark not answers.marked)
  not_taken appends.OutOfMemory answer not is =
      subst (λ (f : CommitFault _). CommitsBy disk left_since tally old new drawer drawer (Err f))
      (sym (answers_lack tally.batch answer is)) (lacks not)

-- ---- a batch that the manifest takes

-- nothing was against the batch, the manifest has it, and this is its segment
pub record IsTaken {D : Type 0} (disk : D → DiskState) (tally : Counted) (old new : Stored D)
    (segment : CountedSpan) : Type 0 where
  pub uncaused : HasCause tally old None
  pub none_held : old.index.held ≡ None
  pub few : length old.index.list < list_limit
  pub manifest : Adds disk (length (payload_of tally.batch)) old.manifest new.manifest
  pub failed_is : new.failed ≡ old.failed
  pub starts : segment.span.first ≡ length (journal_of old.index.list)
  pub batch_is : segment.span.batches ≡ tally.batch ∷ []
  pub counts : IsSegment segment

module _ {D : Type 0} (disk : D → DiskState) (left_since : D → ℕ → List ℕ → Type 0) (tally : Counted)
    (old new : Stored D) (had has : Drawing) (segment : CountedSpan) (taken : IsTaken disk tally old new segment)
    (drawn : has ≡ with_place (length (journal old)) had) where
  added : journal new ≡ journal old ++ segment.span.batches → AddsBatch disk tally old new
  added more = record {
    refused = taken.uncaused;
    stores = more ∙ ap (λ (bs : List Batch). journal old ++ bs) taken.batch_is;
    manifest = taken.manifest;
    failed = taken.failed_is;
  }

  old_room : MakesRoom (list_by old.index) old.index.list
  old_room =
      subst (λ (l : List CountedSpan). MakesRoom l old.index.list) (sym (not_behind old.index taken.none_held))
      (has_room old.index.list taken.few)

  -- the segment is published
  pub put : {J : Type 0} (receipt : Receipt J) → IsReceiptOf receipt (journal old) tally.batch
      → Publishes old.index new.index (AddOf segment) receipt.note
      → EachImage disk left_since new.manifest.disk (HasJournal (journal new))
      → Acknowledges disk left_since tally old new had has receipt
  put receipt is publishes kept =
      let result : Result (List Batch) (Unit {0}) = Ok receipt.note in
      record {
        store = added (made old.index new.index (AddOf segment) result taken.none_held publishes);
        drawn = drawn;
        receipt = is;
        told = publishes.told ∙ sym (listed new.index publishes.none_held);
        none_held = publishes.none_held;
        list = record {
          roomy = old.index.list;
          room = old_room;
          puts = record {
            segment = segment;
            starts = taken.starts;
            batch_is = taken.batch_is;
            counts = taken.counts;
            list_is = publishes.list;
          };
        };
        kept = kept;
      }

  -- it is held
  pub holds : Holds old.index new.index (AddOf segment) → HoldsBatch disk left_since tally old new had has
  holds is =
      let result : Result (List Batch) (Unit {0}) = Err tt in
      record {
        store = added (made old.index new.index (AddOf segment) result taken.none_held is);
        drawn = drawn;
        holds = record {
          segment = segment;
          held_is = ap (λ (i : Publishing). i.held) is;
          batch_is = taken.batch_is;
          counts = taken.counts;
        };
        list = subst (MakesRoom (list_by old.index)) (sym (ap (λ (i : Publishing). i.list) is)) old_room;
      }

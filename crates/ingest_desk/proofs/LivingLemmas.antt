-- A store in its life: which event each answer is.
use Rattle.std.proofs.Common.{◌≡◌, inl, inr, ⊎_elim, ℕ, Bool, true, false, List, [], ◌∷◌, ◌++◌, length, Option, None, Some, Result, Ok, Err, refl, sym, ap, ◌∙◌, subst, arith, append_assoc}
use Rattle.std.proofs.lemmas.List.Elements.{All-from_recursion}
use Rattle.std.proofs.lemmas.Option.{same_Some}
use Rattle.plain_laws.specs.Options.{some-none}
use Rattle.disk_model.specs.Disk.{DiskState, IsQuiet, LeavesOnly}
use Rattle.explorer_model.specs.declared.archive.Batch.{Batch}
use Rattle.explorer_model.specs.declared.archive.Game.{Game}
use Rattle.explorer_model.specs.Journal.{IsBatch, IsSound}
use Rattle.explorer_model.specs.Timeline.{IsPrefix}
use Rattle.explorer_model.specs.Visits.{AreGamesOf}
use Rattle.explorer_model.proofs.Timelines.{prefix-self, prefix-trans}
use Rattle.record_log.specs.Log.{EachImage, Log}
use Rattle.manifest.specs.Manifest.{HasJournal, IsWithOrWithoutBatch}
use Rattle.tally_rows.specs.Tally.{Counted}
use Rattle.segment_blocks.specs.Segment.{CountedSpan}
use Rattle.published_index.specs.Changes.{AddOf, Change, JoinAt, with_held}
use Rattle.published_index.specs.Cover.{journal_of}
use Rattle.ingest_desk.specs.Causes.{Cause, IsClosed, cause}
use Rattle.ingest_desk.specs.Commits.{IsOpenBy, MayLack, StoresBy}
use Rattle.ingest_desk.specs.Kept.{Keeps, KeepsBy}
use Rattle.ingest_desk.specs.Lives.{Life, Failed, Reopened, after, opening, with_pending}
use Rattle.ingest_desk.specs.Lives as lives
use Rattle.ingest_desk.specs.Living.{BeginsWith, HasFailedBy, HasLived, IsClosedBy, IsCommit, IsFresh, IsOpening, IsPending, IsReopened, IsRight, LivesOn, ReopensTo, StoresNothing, event_of}
use Rattle.ingest_desk.specs.Stored.{Stored, journal}
use Rattle.ingest_desk.specs.declared.fault.CommitFault.{CommitFault}
use Rattle.ingest_desk.specs.declared.fault.CommitFault.TheVariants as faults
use Rattle.ingest_desk.specs.declared.receipt.Receipt.{Receipt}
use Rattle.ingest_desk.proofs.KeptLemmas.{left_broken, none_failed, sound_manifest}
use Rattle.ingest_desk.proofs.SoundLemmas.{none_wrong, one_journal}

-- ---- pending batches

pub none_pends : (pending : Option Batch) (fault : Option (ℕ × ℕ)) → IsPending pending fault → fault ≡ None
    → pending ≡ None
none_pends None fault pends none = refl
none_pends (Some batch) None pends none = absurd pends
none_pends (Some batch) (Some counts) pends none = absurd (some-none counts none)

without : (pending : Option Batch) (journal : List Batch) → with_pending pending false journal ≡ journal
without None journal = refl
without (Some batch) journal = refl

both_sound : (journal : List Batch) (batch : Batch) → IsSound journal → IsSound (journal ++ batch ∷ [])
    → (stands : Bool) → IsSound (with_pending (Some batch) stands journal)
both_sound journal batch sound behind true = behind
both_sound journal batch sound behind false = sound

-- a file with the batch that failed or without it is opened with it or without it
maybe_behind : (life : Life) (batch : Batch) (file : List ℕ) → IsSound life.journal
    → IsSound (life.journal ++ batch ∷ []) → IsWithOrWithoutBatch life.journal batch file
    → ReopensTo (after life (Failed batch)) file
maybe_behind life batch file sound behind (inl has) = record { stands = false; has = has; sound = sound }
maybe_behind life batch file sound behind (inr has) = record { stands = true; has = has; sound = behind }

-- a file of an open store is opened without the batch
not_behind : (life : Life) (batch : Batch) (file : List ℕ) → life.pending ≡ None → ReopensTo life file
    → ReopensTo (after life (Failed batch)) file
not_behind life batch file none reopens =
    let same : with_pending life.pending reopens.stands life.journal ≡ life.journal =
    ap (λ (p : Option Batch). with_pending p reopens.stands life.journal) none in
    record {
      stands = false;
      has = subst (λ (j : List Batch). HasJournal j file) same reopens.has;
      sound = subst IsSound same reopens.sound;
    }

nothing_is_sound : IsSound []
nothing_is_sound = record {
  batches = All-from_recursion IsBatch [] tt;
  games = [];
  are_games = tt;
  different = λ i j d lt below. absurd (omega (arith, below));
  within = (omega arith, omega arith);
}

-- ---- stores

module _ {D : Type 0} (disk : D → DiskState) (left_since : D → ℕ → List ℕ → Type 0) where
  life_sound : (life : Life) (store : Stored D) → HasLived disk left_since life store
      → IsSound life.journal
  life_sound life store lived = subst IsSound (without life.pending life.journal) (lived.sound false)

  -- an open store has lived so by its journal
  open_lives : (life : Life) (store : Stored D) → journal store ≡ life.journal → life.pending ≡ None
      → store.failed ≡ None → store.manifest.fault ≡ None → IsSound (journal store)
      → EachImage disk left_since store.manifest.disk (HasJournal (journal store))
      → HasLived disk left_since life store
  open_lives life store same none failed open_is sound images =
      let P : Option Batch → Type 0 = λ p. IsPending p store.manifest.fault in
      let Q : Option (ℕ × ℕ) → Type 0 = λ f. IsPending None f in
      let whole : (stands : Bool) → with_pending life.pending stands life.journal ≡ journal store =
      λ stands. ap (λ (p : Option Batch). with_pending p stands life.journal) none ∙ sym same in
      let is_sound : (stands : Bool) → IsSound (with_pending life.pending stands life.journal) =
      λ stands. subst IsSound (sym (whole stands)) sound in
      record {
        journal_is = same;
        failed_is = failed ∙ sym none;
        closed = subst P (sym none) (subst Q (sym open_is) tt);
        sound = is_sound;
        images = λ file left. record {
          stands = true;
          has = subst (λ (j : List Batch). HasJournal j file) (sym (whole true)) (images file left);
          sound = is_sound true;
        };
      }

  -- another call leaves the store in the life in which it stood
  pub same_life : (life : Life) (old new : Stored D) → StoresNothing old new
      → HasLived disk left_since life old → HasLived disk left_since life new
  same_life life old new is lived =
      let P : Log D → Type 0 = λ l. IsPending life.pending l.fault in
      let Q : Log D → Type 0 = λ l. EachImage disk left_since l.disk (ReopensTo life) in
      record {
        journal_is = is.journal_is ∙ lived.journal_is;
        failed_is = is.failed_is ∙ lived.failed_is;
        closed = subst P (sym is.manifest_is) lived.closed;
        sound = lived.sound;
        images = subst Q (sym is.manifest_is) lived.images;
      }

  -- ---- commits

  -- the batch may stand behind the journal, and the store is closed
  fails_lives : (life : Life) (batch : Batch) (old new : Stored D) (counts : ℕ × ℕ)
      → HasLived disk left_since life old → journal new ≡ journal old
      → new.manifest.fault ≡ Some counts → new.failed ≡ Some batch
      → Keeps disk left_since (journal new) new.manifest new.failed
      → HasLived disk left_since (after life (Failed batch)) new
  fails_lives life batch old new counts lived same closed failed keeps =
      let left = left_broken disk left_since new.failed counts (journal new) new.manifest keeps closed in
      let one = same_Some left.batch batch (sym left.is_failed ∙ failed) in
      let here : journal new ≡ life.journal = same ∙ lived.journal_is in
      let P : Option (ℕ × ℕ) → Type 0 = λ f. IsPending (Some batch) f in
      let S : List Batch → Batch → Type 0 = λ j b. IsSound (j ++ b ∷ []) in
      let R : List Batch → Batch → Type 0 =
      λ j b. EachImage disk left_since new.manifest.disk (IsWithOrWithoutBatch j b) in
      let sound = life_sound life old lived in
      let behind : S life.journal batch =
      subst (S life.journal) one (subst (λ (j : List Batch). S j left.batch) here left.sound) in
      let images : R life.journal batch =
      subst (R life.journal) one (subst (λ (j : List Batch). R j left.batch) here left.images) in
      record {
        journal_is = here;
        failed_is = failed;
        closed = subst P (sym closed) tt;
        sound = both_sound life.journal batch sound behind;
        images = λ file left. maybe_behind life batch file sound behind (images file left);
      }

  -- where nothing is against the batch
  leaves_either : (life : Life) (batch : Batch) (old new : Stored D) → HasLived disk left_since life old
      → IsSound (journal old ++ batch ∷ [])
      → LeavesOnly disk left_since old.manifest.disk new.manifest.disk (IsWithOrWithoutBatch (journal old) batch)
      → LeavesOnly disk left_since old.manifest.disk new.manifest.disk (ReopensTo (after life (Failed batch)))
  leaves_either life batch old new lived behind leaves =
      let sound = life_sound life old lived in
      let S : List Batch → Type 0 = λ j. IsSound (j ++ batch ∷ []) in
      let step : (file : List ℕ) → IsWithOrWithoutBatch (journal old) batch file
      → ReopensTo (after life (Failed batch)) file =
      λ file has. maybe_behind life batch file sound (subst S lived.journal_is behind)
      (subst (λ (j : List Batch). IsWithOrWithoutBatch j batch file) lived.journal_is has) in
      record {
        later = leaves.later;
        each = λ file left. step file (leaves.each file left);
        before = λ t file earlier left.
            ⊎_elim (λ l. inl l) (λ has. inr (step file has)) (leaves.before t file earlier left);
      }

  -- where the disk was left alone
  leaves_old : (life : Life) (batch : Batch) (old new : Stored D) → HasLived disk left_since life old
      → life.pending ≡ None → new.manifest ≡ old.manifest
      → LeavesOnly disk left_since old.manifest.disk new.manifest.disk (ReopensTo (after life (Failed batch)))
  leaves_old life batch old new lived none same =
      let R = ReopensTo (after life (Failed batch)) in
      let P : Log D → Type 0 = λ l. LeavesOnly disk left_since old.manifest.disk l.disk R in
      subst P (sym same) (record {
        later = omega arith;
        each = λ file left. not_behind life batch file none (lived.images file left);
        before = λ t file earlier left. inl left;
      })

  module _ {J : Type 0} where
    -- a batch stands behind the journal, and the store is open
    stores_lives : (life next : Life) (tally : Counted) (old new : Stored D)
        (answer : Result (Receipt J) (CommitFault J)) → IsCommit disk left_since tally old new answer
        → HasLived disk left_since life old → new.manifest.fault ≡ None
        → journal new ≡ journal old ++ tally.batch ∷ [] → next.journal ≡ life.journal ++ tally.batch ∷ []
        → next.pending ≡ None → HasLived disk left_since next new
    stores_lives life next tally old new answer is lived open_is more behind none =
        let holds = sound_manifest disk left_since new.failed (journal new) new.manifest is.keeps open_is in
        open_lives next new
        (more ∙ ap (λ (j : List Batch). j ++ tally.batch ∷ []) lived.journal_is ∙ sym behind)
        none (none_failed disk left_since new.failed (journal new) new.manifest is.keeps open_is)
        open_is is.sound holds.images

    pub commit_lives : (life : Life) (tally : Counted) (old new : Stored D) (answer : Result (Receipt J) (CommitFault J))
        → IsCommit disk left_since tally old new answer → HasLived disk left_since life old
        → LivesOn disk left_since life (event_of answer tally.batch) new
    commit_lives life tally old new (Ok receipt) is lived =
        let none = none_pends life.pending old.manifest.fault lived.closed is.store.manifest.sound in
        let open_is : new.manifest.fault ≡ None = ap (λ (l : Log D). l.fault) is.store.manifest.rest ∙ is.store.manifest.sound in
        let next = after life (lives.Stored tally.batch) in
        (none, stores_lives life next tally old new (Ok receipt) is lived open_is is.store.stores refl none)
    commit_lives life tally old new (Err (faults.OutOfMemory true)) is lived =
        let none = none_pends life.pending old.manifest.fault lived.closed is.store.manifest.sound in
        let open_is : new.manifest.fault ≡ None = ap (λ (l : Log D). l.fault) is.store.manifest.rest ∙ is.store.manifest.sound in
        let next = after life (lives.Kept tally.batch) in
        (none, stores_lives life next tally old new (Err (faults.OutOfMemory true)) is lived open_is is.store.stores refl none)
    commit_lives life tally old new (Err (faults.DiskFault before later mark)) is lived =
        let none = none_pends life.pending old.manifest.fault lived.closed is.store.manifest.sound in
        let closed = ap (λ (l : Log D). l.fault) is.store.manifest.rest in
        (none, fails_lives life tally.batch old new (before, later) lived is.store.stores closed is.store.failed is.keeps)
    commit_lives life tally old new (Err (faults.OutOfMemory false)) is lived =
        same_life life old new (record { journal_is = is.store.stores; manifest_is = is.store.manifest; failed_is = is.store.failed }) lived
    commit_lives life tally old new (Err (faults.Closed before later mark)) is lived =
        same_life life old new (record { journal_is = is.store.stores; manifest_is = is.store.manifest; failed_is = is.store.failed }) lived
    commit_lives life tally old new (Err (faults.Clash handed pairs note)) is lived =
        same_life life old new (record { journal_is = is.store.stores; manifest_is = is.store.manifest; failed_is = is.store.failed }) lived
    commit_lives life tally old new (Err (faults.Full games bytes note)) is lived =
        same_life life old new (record { journal_is = is.store.stores; manifest_is = is.store.manifest; failed_is = is.store.failed }) lived

    -- ---- a crash meanwhile

    -- what a crash leaves while a batch is committed to an open store
    pub crash_lives : (life : Life) (tally : Counted) (old new : Stored D) (answer : Result (Receipt J) (CommitFault J))
        → IsCommit disk left_since tally old new answer → HasLived disk left_since life old
        → old.manifest.fault ≡ None
        → LeavesOnly disk left_since old.manifest.disk new.manifest.disk (ReopensTo (after life (Failed tally.batch)))
    crash_lives life tally old new answer is lived open_is = by answer is
      where
        batch : Batch
        batch = tally.batch

        none : life.pending ≡ None
        none = none_pends life.pending old.manifest.fault lived.closed open_is

        nothing_against : cause old.manifest.fault is.was_sound.games (journal old) tally ≡ None
            → LeavesOnly disk left_since old.manifest.disk new.manifest.disk (ReopensTo (after life (Failed batch)))
        nothing_against uncaused =
            leaves_either life batch old new lived
            (is.behind is.was_sound.games is.was_sound.are_games uncaused) (is.crash open_is)

        by : (answer : Result (Receipt J) (CommitFault J)) → IsCommit disk left_since tally old new answer
            → LeavesOnly disk left_since old.manifest.disk new.manifest.disk (ReopensTo (after life (Failed batch)))
        by (Ok receipt) it = nothing_against (it.store.refused is.was_sound.games is.was_sound.are_games)
        by (Err (faults.OutOfMemory true)) it = nothing_against (it.store.refused is.was_sound.games is.was_sound.are_games)
        by (Err (faults.DiskFault before later mark)) it =
            nothing_against (it.store.refused is.was_sound.games is.was_sound.are_games)
        by (Err (faults.OutOfMemory false)) it = leaves_old life batch old new lived none it.store.manifest
        by (Err (faults.Closed before later mark)) it = leaves_old life batch old new lived none it.store.manifest
        by (Err (faults.Clash handed pairs note)) it = leaves_old life batch old new lived none it.store.manifest
        by (Err (faults.Full games bytes note)) it = leaves_old life batch old new lived none it.store.manifest

  -- ---- openings

  pub fresh_lives : (store : Stored D) → IsFresh disk left_since store
      → HasLived disk left_since (opening []) store
  fresh_lives store is =
      let sound : IsSound (journal store) = subst IsSound (sym is.empty) nothing_is_sound in
      let E : List Batch → Type 0 = λ j. EachImage disk left_since store.manifest.disk (HasJournal j) in
      open_lives (opening []) store is.empty refl is.none_failed is.manifest.sound sound
      (subst E (sym is.empty) is.manifest.images)

  pub opening_begins : (file : List ℕ) (store : Stored D) → IsOpening disk left_since file store
      → HasLived disk left_since (opening (journal store)) store
  opening_begins file store is =
      open_lives (opening (journal store)) store refl refl is.none_failed is.sound is.recounted is.images

  pub opening_lives : (life : Life) (file : List ℕ) (store : Stored D) → IsOpening disk left_since file store
      → ReopensTo life file → IsReopened disk left_since life store
  opening_lives life file store is reopens =
      let next = after life (Reopened reopens.stands) in
      let same = one_journal file (journal store) next.journal is.read reopens.has in
      (reopens.stands, open_lives next store same refl is.none_failed is.sound is.recounted is.images)

  pub quiet_lives : (life : Life) (before later : D) → EachImage disk left_since before (ReopensTo life)
      → IsQuiet disk left_since before later → EachImage disk left_since later (ReopensTo life)
  quiet_lives life before later each quiet = λ file left. each file (quiet.now file left)

  -- ---- what was told

  kept_begins : (seen whole : List Batch) (manifest : Log D) (fault : Option (ℕ × ℕ)) (failed : Option Batch)
      → IsPrefix seen whole → KeepsBy disk left_since whole manifest fault failed
      → EachImage disk left_since manifest.disk (BeginsWith seen)
  kept_begins seen whole manifest None None begins keeps =
      λ file left. record { whole = whole; begins = begins; has = keeps.images file left }
  kept_begins seen whole manifest None (Some batch) begins keeps = absurd keeps
  kept_begins seen whole manifest (Some counts) None begins keeps = absurd keeps
  kept_begins seen whole manifest (Some counts) (Some batch) begins keeps = λ file left. by file (keeps.1 file left)
    where
      longer : IsPrefix seen (whole ++ batch ∷ [])
      longer = record {
        rest = begins.rest ++ batch ∷ [];
        is = ap (λ (j : List Batch). j ++ batch ∷ []) begins.is ∙ append_assoc seen begins.rest (batch ∷ []);
      }

      by : (file : List ℕ) → IsWithOrWithoutBatch whole batch file → BeginsWith seen file
      by file (inl has) = record { whole = whole; begins = begins; has = has }
      by file (inr has) = record { whole = whole ++ batch ∷ []; begins = longer; has = has }

  -- the published journal begins the stored one
  held_begins : (front : List Batch) (held : Option Change) → IsPrefix front (with_held front held)
  held_begins front None = prefix-self front
  held_begins front (Some (JoinAt at segment)) = prefix-self front
  held_begins front (Some (AddOf segment)) = record { rest = segment.span.batches; is = refl }

  pub told_outlives : (store : Stored D) (seen : List Batch) → IsPrefix seen (journal store)
      → Keeps disk left_since (journal store) store.manifest store.failed
      → EachImage disk left_since store.manifest.disk (BeginsWith seen)
  told_outlives store seen begins keeps =
      kept_begins seen (journal store) store.manifest store.manifest.fault store.failed begins keeps

  pub published_outlives : (store : Stored D)
      → Keeps disk left_since (journal store) store.manifest store.failed
      → EachImage disk left_since store.manifest.disk (BeginsWith (journal_of store.index.list))
  published_outlives store keeps =
      told_outlives store (journal_of store.index.list)
      (held_begins (journal_of store.index.list) store.index.held) keeps

  -- ---- a closed store

  pub fault_closes : {J : Type 0} (tally : Counted) (old new : Stored D) (before later : ℕ)
      (answer : Result (Receipt J) (CommitFault J)) → IsCommit disk left_since tally old new answer
      → HasFailedBy before later answer → new.manifest.fault ≡ Some (before, later)
  fault_closes tally old new before later (Err (faults.DiskFault b l mark)) is failed =
      ap (λ (l : Log D). l.fault) is.store.manifest.rest ∙ λ i. Some (failed.0 i, failed.1 i)
  fault_closes tally old new before later (Ok receipt) is failed = absurd failed
  fault_closes tally old new before later (Err (faults.Closed b l mark)) is failed = absurd failed
  fault_closes tally old new before later (Err (faults.Clash handed pairs note)) is failed = absurd failed
  fault_closes tally old new before later (Err (faults.Full games bytes note)) is failed = absurd failed
  fault_closes tally old new before later (Err (faults.OutOfMemory stored)) is failed = absurd failed

  closed_same : {J : Type 0} (tally : Counted) (old new : Stored D) (before later : ℕ)
      (answer : Result (Receipt J) (CommitFault J)) → IsCommit disk left_since tally old new answer
      → IsClosedBy before later answer → StoresNothing old new
  closed_same tally old new before later (Err (faults.Closed b l mark)) is closed =
      record { journal_is = is.store.stores; manifest_is = is.store.manifest; failed_is = is.store.failed }
  closed_same tally old new before later (Ok receipt) is closed = absurd closed
  closed_same tally old new before later (Err (faults.DiskFault b l mark)) is closed = absurd closed
  closed_same tally old new before later (Err (faults.Clash handed pairs note)) is closed = absurd closed
  closed_same tally old new before later (Err (faults.Full games bytes note)) is closed = absurd closed
  closed_same tally old new before later (Err (faults.OutOfMemory stored)) is closed = absurd closed

  same_cause : (b a b' a' : ℕ) → Some (IsClosed b a) ≡ Some (IsClosed b' a') → (b' ≡ b) × (a' ≡ a)
  same_cause b a b' a' is = (cc, cc)

  closed_answers : {J : Type 0} (tally : Counted) (old new : Stored D) (games : List Game)
      (before later : ℕ) (answer : Result (Receipt J) (CommitFault J)) → StoresBy disk tally old new answer
      → AreGamesOf (journal old) games → old.manifest.fault ≡ Some (before, later)
      → IsClosedBy before later answer
  closed_answers {J} tally old new games before later answer is are closed = by answer is
    where
      closed_is : (why : Option Cause) → cause old.manifest.fault games (journal old) tally ≡ why
          → Some (IsClosed before later) ≡ why
      closed_is why is =
          sym (ap (λ (f : Option (ℕ × ℕ)). cause f games (journal old) tally) closed) ∙ is

      none : cause old.manifest.fault games (journal old) tally ≡ None → ⊥
      none is = cc (closed_is None is)

      lacks : MayLack (cause old.manifest.fault games (journal old) tally) old.index.held → ⊥
      lacks (inl is) = none is
      lacks (inr held) =
          subst IsOpenBy (ap (λ (f : Option (ℕ × ℕ)). cause f games (journal old) tally) closed) held.1

      by : (answer : Result (Receipt J) (CommitFault J)) → StoresBy disk tally old new answer
          → IsClosedBy before later answer
      by (Ok receipt) it = absurd (none (it.refused games are))
      by (Err (faults.Closed b l mark)) it = same_cause before later b l (closed_is _ (it.refused games are))
      by (Err (faults.Clash handed pairs note)) it = absurd (cc (closed_is _ (it.refused games are)))
      by (Err (faults.Full g b note)) it = absurd (cc (closed_is _ (it.refused games are)))
      by (Err (faults.DiskFault b l mark)) it = absurd (none (it.refused games are))
      by (Err (faults.OutOfMemory true)) it = absurd (none (it.refused games are))
      by (Err (faults.OutOfMemory false)) it = absurd (lacks (it.refused games are))

  pub stays_closed : {J : Type 0} (tally : Counted) (old new : Stored D) (before later : ℕ)
      (answer : Result (Receipt J) (CommitFault J)) → IsCommit disk left_since tally old new answer
      → old.manifest.fault ≡ Some (before, later) → IsClosedBy before later answer × StoresNothing old new
  stays_closed tally old new before later answer is closed =
      let answers = closed_answers tally old new is.was_sound.games before later answer is.store
      is.was_sound.are_games closed in
      (answers, closed_same tally old new before later answer is answers)

-- nothing is wrong with what a life leaves
pub life_opens : (life : Life) (file : List ℕ) → ReopensTo life file → IsRight file
life_opens life file reopens = λ fault wrong.
    none_wrong file (after life (Reopened reopens.stands)).journal fault reopens.has reopens.sound wrong

-- ---- notes

no_more : (front rest : List Batch) → length (front ++ rest) ≡ length front → front ++ rest ≡ front
no_more [] [] same = refl
no_more [] (r ∷ rest) same = absurd (omega (arith, same))
no_more (x ∷ front) rest same = ap (λ (l : List Batch). x ∷ l) (no_more front rest (omega (arith, same)))

-- a list that is as long as its front is that front
front_is_all : (front whole : List Batch) → IsPrefix front whole → length whole ≡ length front → whole ≡ front
front_is_all front whole begins same =
    begins.is ∙ no_more front begins.rest (ap (λ (l : List Batch). length l) (sym begins.is) ∙ same)

pub told_stands : (note seen all : List Batch) (list : List CountedSpan) → IsPrefix note seen → IsPrefix seen all
    → IsPrefix (journal_of list) all → length all ≡ length (journal_of list) → IsPrefix note (journal_of list)
told_stands note seen all list told before known same =
    subst (λ (l : List Batch). IsPrefix note l) (front_is_all (journal_of list) all known same)
    (prefix-trans note seen all told before)

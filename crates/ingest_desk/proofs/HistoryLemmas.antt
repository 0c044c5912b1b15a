-- Whatever happens to a store is a life.
use Rattle.std.proofs.Common.{◌≡◌, ◌⊎◌, inl, inr, ⊎_elim, ℕ, List, [], ◌∷◌, ◌++◌, length, Option, None, Some, true, false, Result, Ok, Err, refl, sym, ap, ◌∙◌, subst, append_assoc, arith}
use Rattle.std.proofs.lemmas.List.{append-nil}
use Rattle.disk_model.specs.Disk.{DiskState}
use Rattle.explorer_model.specs.declared.archive.Batch.{Batch}
use Rattle.explorer_model.specs.Timeline.{IsPrefix}
use Rattle.record_log.specs.Log.{Log}
use Rattle.tally_rows.specs.Tally.{Counted}
use Rattle.ingest_desk.specs.Histories.{AreSteps, Commits, Crashes, IsCutOff, IsStep, MayBeLeft, Opens, Rests, Step, acknowledged_by, acknowledged_in}
use Rattle.ingest_desk.specs.Lives.{AreAllowed, Failed, IsAllowed, Life, LifeEvent, Reopened, StandFrom, after, opening, run}
use Rattle.ingest_desk.specs.Lives as lives
use Rattle.ingest_desk.specs.Living.{HasLived, IsOpening, IsRight, LivesOn, ReopensTo, event_of}
use Rattle.ingest_desk.specs.Stored.{Stored, journal}
use Rattle.ingest_desk.specs.declared.fault.CommitFault.{CommitFault}
use Rattle.ingest_desk.specs.declared.fault.CommitFault.TheVariants as faults
use Rattle.ingest_desk.specs.declared.receipt.Receipt.{Receipt}
use Rattle.ingest_desk.proofs.LifeLemmas.{run-grows, run-keeps}
use Rattle.ingest_desk.proofs.LivingLemmas.{commit_lives, crash_lives, life_opens, none_pends, opening_lives, same_life, stays_closed}

-- ---- lives one behind another

run-append : (life : Life) (events more : List LifeEvent) → run life (events ++ more) ≡ run (run life events) more
run-append life [] more = refl
run-append life (event ∷ events) more = run-append (after life event) events more

allowed-append : (life : Life) (events more : List LifeEvent) → AreAllowed life events → AreAllowed (run life events) more
    → AreAllowed life (events ++ more)
allowed-append life [] more first later = later
allowed-append life (event ∷ events) more first later =
    (first.0, allowed-append (after life event) events more first.1 later)

module _ {D : Type 0} (disk : D → DiskState) (left_since : D → ℕ → List ℕ → Type 0) where
  -- the life went on by allowed events, and these batches were acknowledged meanwhile
  pub record LivesTo (life : Life) (acknowledged : List Batch) (store : Stored D) : Type 0 where
    pub events : List LifeEvent
    pub allowed : AreAllowed life events
    pub told : (run life events).acknowledged ≡ life.acknowledged ++ acknowledged
    pub lived : HasLived disk left_since (run life events) store

  lives_on : (life : Life) (first second : List Batch) (middle store : Stored D) (one : LivesTo life first middle)
      → LivesTo (run life one.events) second store → LivesTo life (first ++ second) store
  lives_on life first second middle store one two =
      let both : run life (one.events ++ two.events) ≡ run (run life one.events) two.events =
      run-append life one.events two.events in
      record {
        events = one.events ++ two.events;
        allowed = allowed-append life one.events two.events one.allowed two.allowed;
        told = ap (λ (l : Life). l.acknowledged) both ∙ two.told
            ∙ ap (λ (l : List Batch). l ++ second) one.told ∙ append_assoc life.acknowledged first second;
        lived = subst (λ (l : Life). HasLived disk left_since l store) (sym both) two.lived;
      }

  -- ---- one step

  none_more : (life : Life) → life.acknowledged ≡ life.acknowledged ++ []
  none_more life = sym (append-nil life.acknowledged)

  stays : (life : Life) (store : Stored D) → HasLived disk left_since life store → LivesTo life [] store
  stays life store lived = record { events = []; allowed = tt; told = none_more life; lived = lived }

  goes_on : (life : Life) (event : LifeEvent) (acknowledged : List Batch) (store : Stored D)
      → (after life event).acknowledged ≡ life.acknowledged ++ acknowledged
      → LivesOn disk left_since life (Some event) store → LivesTo life acknowledged store
  goes_on life event acknowledged store told on =
      record { events = event ∷ []; allowed = (on.0, tt); told = told; lived = on.1 }

  reopens : (life : Life) (file : List ℕ) (store : Stored D) → ReopensTo life file
      → IsOpening disk left_since file store → LivesTo life [] store
  reopens life file store from is =
      let again = opening_lives disk left_since life file store is from in
      record { events = Reopened again.0 ∷ []; allowed = (tt, tt); told = none_more life; lived = again.1 }

  fails_and_reopens : (life : Life) (batch : Batch) (file : List ℕ) (store : Stored D)
      → IsAllowed life (Failed batch) → ReopensTo (after life (Failed batch)) file
      → IsOpening disk left_since file store → LivesTo life [] store
  fails_and_reopens life batch file store allowed from is =
      let again = opening_lives disk left_since (after life (Failed batch)) file store is from in
      record {
        events = Failed batch ∷ Reopened again.0 ∷ [];
        allowed = (allowed, (tt, tt));
        told = none_more life;
        lived = again.1;
      }

  module _ {J : Type 0} where
    after_commit : (life : Life) (tally : Counted) (answer : Result (Receipt J) (CommitFault J)) (new : Stored D)
        → LivesOn disk left_since life (event_of answer tally.batch) new
        → LivesTo life (acknowledged_by (Commits tally answer)) new
    after_commit life tally (Ok receipt) new on = goes_on life (lives.Stored tally.batch) (tally.batch ∷ []) new refl on
    after_commit life tally (Err (faults.OutOfMemory true)) new on =
        goes_on life (lives.Kept tally.batch) [] new (none_more life) on
    after_commit life tally (Err (faults.DiskFault b l mark)) new on =
        goes_on life (Failed tally.batch) [] new (none_more life) on
    after_commit life tally (Err (faults.OutOfMemory false)) new on = stays life new on
    after_commit life tally (Err (faults.Closed b l mark)) new on = stays life new on
    after_commit life tally (Err (faults.Clash handed pairs note)) new on = stays life new on
    after_commit life tally (Err (faults.Full games bytes note)) new on = stays life new on

    -- what a commit leaves that a crash cut off: of an open store, and of one that a disk fault had closed
    cut_off : (life : Life) (tally : Counted) (old : Stored D) (file : List ℕ) → IsCutOff J disk left_since tally old file
        → HasLived disk left_since life old → (fault : Option (ℕ × ℕ)) → old.manifest.fault ≡ fault
        → (IsAllowed life (Failed tally.batch) × ReopensTo (after life (Failed tally.batch)) file) ⊎ ReopensTo life file
    cut_off life tally old file is lived None open_is =
        let leaves = crash_lives disk left_since life tally old is.middle is.answer is.committed lived open_is in
        inl (none_pends life.pending old.manifest.fault lived.closed open_is, leaves.each file is.left)
    cut_off life tally old file is lived (Some counts) closed =
        let same = (stays_closed disk left_since tally old is.middle counts.0 counts.1 is.answer is.committed closed).1 in
        let P : Log D → Type 0 = λ l. left_since l.disk (disk old.manifest.disk).moment file in
        inr (lived.images file (subst P same.manifest_is is.left))

    one_step : (life : Life) (old new : Stored D) (s : Step J) → HasLived disk left_since life old
        → IsStep disk left_since old s new → LivesTo life (acknowledged_by s) new
    one_step life old new (Commits tally answer) lived is =
        after_commit life tally answer new (commit_lives disk left_since life tally old new answer is lived)
    one_step life old new (Crashes tally file) lived is =
        ⊎_elim (λ from. fails_and_reopens life tally.batch file new from.0 from.1 is.1)
        (λ from. reopens life file new from is.1) (cut_off life tally old file is.0 lived old.manifest.fault refl)
    one_step life old new (Opens file) lived is = reopens life file new (lived.images file is.0) is.1
    one_step life old new Rests lived is = stays life new (same_life disk left_since life old new is lived)

    pub steps_live : (life : Life) (old new : Stored D) (steps : List (Step J)) → HasLived disk left_since life old
        → AreSteps disk left_since old steps new → LivesTo life (acknowledged_in steps) new
    steps_live life old new [] lived is = subst (LivesTo life []) (sym is) (stays life old lived)
    steps_live life old new (s ∷ steps) lived is =
        let one = one_step life old is.0 s lived is.1 in
        lives_on life (acknowledged_by s) (acknowledged_in steps) is.0 new one
        (steps_live (run life one.events) is.0 new steps one.lived is.2)

    -- ---- histories

    pub history_begins : (old new : Stored D) (steps : List (Step J)) → HasLived disk left_since (opening (journal old)) old
        → AreSteps disk left_since old steps new → IsPrefix (journal old) (journal new)
    history_begins old new steps lived is =
        let whole = steps_live (opening (journal old)) old new steps lived is in
        subst (λ (j : List Batch). IsPrefix (journal old) j) (sym whole.lived.journal_is)
        (run-grows (opening (journal old)) whole.events)

    pub history_keeps : (old new : Stored D) (steps : List (Step J)) → HasLived disk left_since (opening (journal old)) old
        → AreSteps disk left_since old steps new → StandFrom (length (journal old)) (journal new) (acknowledged_in steps)
    history_keeps old new steps lived is =
        let start = opening (journal old) in
        let whole = steps_live start old new steps lived is in
        let keeps = run-keeps (length (journal old)) start whole.events (record { long = omega arith; stand = tt }) in
        let S : List Batch → List Batch → Type 0 = λ j a. StandFrom (length (journal old)) j a in
        subst (λ (j : List Batch). S j (acknowledged_in steps)) (sym whole.lived.journal_is)
        (subst (S (run start whole.events).journal) whole.told keeps.stand)

    -- what is left of a store that has lived is right
    left_right : (life : Life) (store : Stored D) (file : List ℕ) → HasLived disk left_since life store
        → MayBeLeft J disk left_since store file → IsRight file
    left_right life store file lived (inl left) = life_opens life file (lived.images file left)
    left_right life store file lived (inr cut) =
        ⊎_elim (λ from. life_opens (after life (Failed cut.0.batch)) file from.1)
        (λ from. life_opens life file from)
        (cut_off life cut.0 store file cut.1 lived store.manifest.fault refl)

    pub history_opens : (old new : Stored D) (steps : List (Step J)) (file : List ℕ)
        → HasLived disk left_since (opening (journal old)) old → AreSteps disk left_since old steps new
        → MayBeLeft J disk left_since new file → IsRight file
    history_opens old new steps file lived is left =
        let whole = steps_live (opening (journal old)) old new steps lived is in
        left_right (run (opening (journal old)) whole.events) new file whole.lived left

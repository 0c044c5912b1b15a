-- What an import into an opened store comes to.
use Rattle.std.proofs.Common.{◌≡◌, inl, inr, ℕ, ◌+◌, ◌<◌, ◌≤◌, ◌^◌, List, [], ◌∷◌, ◌++◌, Option, None, Some, length, refl, sym, ap, subst, ◌∙◌, length-append, arith}
use Rattle.std.specs.Prelude.{IfSome}
use Rattle.std.proofs.lemmas.List.Sums.{sum_by-cons}
use Rattle.std.proofs.lemmas.Grind.{flat_map-append}
use Rattle.std.proofs.lemmas.Option.{none-some}
use Rattle.plain_laws.specs.Options.{IfSome-from}
use Rattle.disk_model.specs.Disk.{DiskState, MayLeave}
use Rattle.outside.specs.Stream.{Rises, Stream, Writes}
use Rattle.explorer_model.specs.declared.archive.Batch.{Batch}
use Rattle.explorer_model.specs.declared.fault.Refusal.{Refusal}
use Rattle.explorer_model.specs.Journal.{game_count}
use Rattle.explorer_model.specs.Visits.{texts_of}
use Rattle.manifest.specs.Manifest.{HasJournal}
use Rattle.ingest_desk.specs.Importers.{ending_of}
use Rattle.ingest_desk.specs.Kept.{Keeps}
use Rattle.ingest_desk.specs.Reporting.{FindsNoRoom, games_of}
use Rattle.ingest_desk.specs.Stored.{Stored, journal}
use Rattle.ingest_desk.specs.declared.receipt.Receipt.{Receipt}
use Rattle.ingest_desk.specs.declared.report.End.{End}
use Rattle.ingest_desk.specs.declared.report.End.TheVariants as ends
use Rattle.ingest_desk.specs.declared.report.ImportEnding.{ImportEnding}
use Rattle.ingest_desk.specs.declared.report.ImportEnding.TheVariants as endings
use Rattle.ingest_desk.specs.declared.report.Report.{Report}
use Rattle.ingest_desk.proofs.KeptLemmas.{left_broken, sound_manifest}
use Rattle.import_run.specs.Alone.{DiskFaultsAre, ImportsAlone, stored_in}
use Rattle.import_run.specs.Committing.{Known, Store}
use Rattle.import_run.specs.Ending.{ReadFaultsAre, StandsAt, StoresBy}
use Rattle.import_run.specs.Progress.{AreReceiptsOf}
use Rattle.explorer.specs.declared.importing.Came.{Came}
use Rattle.explorer.specs.declared.fault.Fault.{Fault}
use Rattle.explorer.specs.Faults.{fault_by}
use Rattle.explorer.specs.Imported.{FaultsBy, HoldsBy, ImportedIn, StandsBy, StoredBy}
use Rattle.explorer.specs.ImportStore.{IsTold, OutcomeBy, totals}
use Rattle.explorer.specs.Lines.{Ending, Stopped}
use Rattle.explorer.specs.Report.{report}

-- ---- receipts

module _ {J : Type 0} where
  pub games_told : (j : List Batch) (receipts : List (Receipt J)) (batches : List Batch) → AreReceiptsOf j receipts batches → games_of receipts ≡ game_count batches
  games_told j [] [] are = refl
  games_told j [] (batch ∷ batches) are = absurd are
  games_told j (receipt ∷ receipts) [] are = absurd are
  games_told j (receipt ∷ receipts) (batch ∷ batches) are =
      omega (arith, sum_by-cons (λ (r : Receipt J). r.games) receipt receipts, are.0.games, games_told (j ++ batch ∷ []) receipts batches are.2, length-append batch.texts (texts_of batches))

  pub batches_told : (j : List Batch) (receipts : List (Receipt J)) (batches : List Batch) → AreReceiptsOf j receipts batches → length receipts ≡ length batches
  batches_told j [] [] are = refl
  batches_told j [] (batch ∷ batches) are = absurd are
  batches_told j (receipt ∷ receipts) [] are = absurd are
  batches_told j (receipt ∷ receipts) (batch ∷ batches) are = omega (arith, batches_told (j ++ batch ∷ []) receipts batches are.2)

games_append : (a b : List Batch) → game_count (a ++ b) ≡ game_count a + game_count b
games_append a b = ap (λ (l : List (List ℕ)). length l) (flat_map-append _ a b) ∙ length-append (texts_of a) (texts_of b)

holds_open : {D : Type 0} (disk : D → DiskState) (left_since : D → ℕ → List ℕ → Type 0) → ((it : D) (file : List ℕ) → (disk it).content ≡ Some file → MayLeave disk left_since it file)
    → (after : Stored D) → Keeps disk left_since (journal after) after.manifest after.failed → after.manifest.fault ≡ None → IfSome (disk after.manifest.disk).content (HasJournal (journal after))
holds_open {D} disk left_since told after keeps none =
    let kept = sound_manifest disk left_since after.failed (journal after) after.manifest keeps none in
    IfSome-from (HasJournal (journal after)) (disk after.manifest.disk).content (λ bytes is. kept.images bytes (told after.manifest.disk bytes is))

-- ---- by the end

module _ {J : Type 0} (start : Known) (open_is : start.fault ≡ None) where
  stands_by : (label : List ℕ) (end : End J) (stream : List ℕ) (left : Option (List ℕ)) (batches : List Batch) (refused : List Refusal) (new : Store) → StandsAt label end start stream left batches refused new
      → StandsBy label (ending_of end) start stream left batches refused new.journal new.failed
  stands_by label ends.Whole stream left batches refused new s = record { at_end = s.0; below = s.1; settled = s.2 }
  stands_by label (ends.ReadFault first last) stream left batches refused new s = s
  stands_by label (ends.TooMuch bytes) stream left batches refused new s = s.1
  stands_by label (ends.DiskFault first last mark) stream left batches refused new s = s.2
  stands_by label (ends.Closed first last mark) stream left batches refused new s = none-some (first, last) (sym open_is ∙ s.1)
  stands_by label (ends.Full games bytes note) stream left batches refused new s =
      let P : List Batch → Type 0 = λ j. FindsNoRoom j games bytes s.2.0.left in
      (s.2.0, subst P s.1 s.2.1)
  stands_by label ends.OutOfMemory stream left batches refused new s = s

  stored_by_end : (end : End J) (j : List Batch) (new : Store) → StoresBy end j start.fault new → StoredBy (ending_of end) j new.journal
  stored_by_end ends.Whole j new s = s.0
  stored_by_end (ends.ReadFault first last) j new s = s.0
  stored_by_end (ends.TooMuch bytes) j new s = s.0
  stored_by_end (ends.DiskFault first last mark) j new s = s.0
  stored_by_end (ends.Closed first last mark) j new s = s.0
  stored_by_end (ends.Full games bytes note) j new s = s.0
  stored_by_end ends.OutOfMemory j new s = s.0

  few_by_end : (end : End J) (j batches : List Batch) (new : Store) → StoresBy end (j ++ batches) start.fault new → game_count batches ≤ game_count new.journal
  few_by_end end j batches new s = by_stored end (stored_by_end end (j ++ batches) new s)
    where
      more : (l : List Batch) → l ≡ j ++ batches → game_count batches ≤ game_count l
      more l is = omega (arith, ap game_count is, games_append j batches)

      by_stored : (end : End J) → StoredBy (ending_of end) (j ++ batches) new.journal → game_count batches ≤ game_count new.journal
      by_stored ends.Whole is = more new.journal is
      by_stored (ends.ReadFault first last) is = more new.journal is
      by_stored (ends.TooMuch bytes) is = more new.journal is
      by_stored (ends.DiskFault first last mark) is = more new.journal is
      by_stored (ends.Closed first last mark) is = more new.journal is
      by_stored (ends.Full games bytes note) is = more new.journal is
      by_stored ends.OutOfMemory (inl is) = more new.journal is
      by_stored ends.OutOfMemory (inr (batch, is)) = omega (arith, ap game_count is, games_append (j ++ batches) (batch ∷ []), games_append j batches)

  module _ {D : Type 0} (disk : D → DiskState) (left_since : D → ℕ → List ℕ → Type 0) (told : (it : D) (file : List ℕ) → (disk it).content ≡ Some file → MayLeave disk left_since it file)
      (after : Stored D) (keeps : Keeps disk left_since (journal after) after.manifest after.failed) where
    holds_by : (end : End J) (j : List Batch) → StoresBy end j start.fault (stored_in after) → IfSome (disk after.manifest.disk).content (HoldsBy (ending_of end) (journal after) after.failed)
    holds_by (ends.DiskFault first last mark) j s =
        let kept = left_broken disk left_since after.failed (first, last) (journal after) after.manifest keeps s.1 in
        IfSome-from (HoldsBy (endings.DiskFault first last) (journal after) after.failed) (disk after.manifest.disk).content
        (λ bytes is. (kept.batch, kept.is_failed, kept.sound, kept.images bytes (told after.manifest.disk bytes is)))
    holds_by ends.Whole j s = holds_open disk left_since told after keeps (s.1 ∙ open_is)
    holds_by (ends.ReadFault first last) j s = holds_open disk left_since told after keeps (s.1 ∙ open_is)
    holds_by (ends.TooMuch bytes) j s = holds_open disk left_since told after keeps (s.1 ∙ open_is)
    holds_by (ends.Closed first last mark) j s = holds_open disk left_since told after keeps (s.1 ∙ open_is)
    holds_by (ends.Full games bytes note) j s = holds_open disk left_since told after keeps (s.1 ∙ open_is)
    holds_by ends.OutOfMemory j s = holds_open disk left_since told after keeps (s.1 ∙ open_is)

faults_by : {J : Type 0} (end : End J) (disk disk_after : DiskState) (source source_after : Stream) → ReadFaultsAre end source source_after → DiskFaultsAre end disk disk_after
    → FaultsBy (ending_of end) disk disk_after source source_after
faults_by {J} (ends.ReadFault first last) disk disk_after source source_after r d =
    let P : ℕ → Type 0 = λ n. Rises n source_after.read_faults in
    let Q : ℕ → Type 0 = λ n. Rises first n in
    (d, subst P r.0 (subst Q r.1 r.2))
faults_by {J} (ends.DiskFault first last mark) disk disk_after source source_after r d =
    let P : ℕ → Type 0 = λ n. Rises n disk_after.faults in
    let Q : ℕ → Type 0 = λ n. Rises first n in
    (subst P d.before_is (subst Q d.after_is d.rises), r)
faults_by {J} ends.Whole disk disk_after source source_after r d = record { calls = d; reads = r }
faults_by {J} (ends.TooMuch bytes) disk disk_after source source_after r d = record { calls = d; reads = r }
faults_by {J} (ends.Closed first last mark) disk disk_after source source_after r d = (d, r)
faults_by {J} (ends.Full games bytes note) disk disk_after source source_after r d = (d, r)
faults_by {J} ends.OutOfMemory disk disk_after source source_after r d = (d, r)

-- ---- an import

module _ {D J : Type 0} (label : List ℕ) (disk : D → DiskState) (left_since : D → ℕ → List ℕ → Type 0) (told : (it : D) (file : List ℕ) → (disk it).content ≡ Some file → MayLeave disk left_since it file)
    (source source_after : Stream) (before after : Stored D) (report : Report J) (is : ImportsAlone label disk left_since source before source_after after report)
    (open_is : before.manifest.fault ≡ None) where
  started : is.start.fault ≡ None
  started = ap (λ (s : Store). s.fault) is.start_is ∙ open_is

  pub few_games : games_of report.receipts.items < 2 ^ 32
  few_games =
      omega (arith, games_told is.start.journal report.receipts.items is.batches is.receipts, few_by_end is.start started report.end is.start.journal is.batches (stored_in after) is.stores, is.sound.within.0)

  pub imported_in : (came : Came) → came.ending ≡ ending_of report.end → came.refused.items ≡ report.refused.items → came.games ≡ games_of report.receipts.items
      → came.batches ≡ length report.receipts.items → came.journal ≡ length (journal after)
      → ImportedIn label (journal before) (journal after) (disk before.manifest.disk) (disk after.manifest.disk) source source_after came
  imported_in came ending refused games batches stored =
      let e : ending_of report.end ≡ came.ending = sym ending in
      let S : List Refusal → Type 0 = λ l. StandsBy label (ending_of report.end) is.start is.stream source_after.left is.batches l (journal after) after.failed in
      let T : ImportEnding → Type 0 = λ f. StandsBy label f is.start is.stream source_after.left is.batches came.refused.items (journal after) after.failed in
      let M : ImportEnding → Type 0 = λ f. StoredBy f (is.start.journal ++ is.batches) (journal after) in
      let H : ImportEnding → Type 0 = λ f. IfSome (disk after.manifest.disk).content (HoldsBy f (journal after) after.failed) in
      let F : ImportEnding → Type 0 = λ f. FaultsBy f (disk before.manifest.disk) (disk after.manifest.disk) source source_after in
      record {
        start = is.start;
        sound = started;
        none_failed = is.none_failed started;
        failed = after.failed;
        journal_is = ap (λ (s : Store). s.journal) is.start_is;
        stream = is.stream;
        reads = is.reads;
        batches = is.batches;
        stands = subst T e (subst S (sym refused) (stands_by is.start started label report.end is.stream source_after.left is.batches report.refused.items (stored_in after) is.stands));
        stored_are = subst M e (stored_by_end is.start started report.end (is.start.journal ++ is.batches) (stored_in after) is.stores);
        is_sound = is.sound;
        holds = subst H e (holds_by is.start started disk left_since told after is.keeps report.end (is.start.journal ++ is.batches) is.stores);
        faults = subst F e (faults_by report.end (disk before.manifest.disk) (disk after.manifest.disk) source source_after is.read_faults is.disk_faults);
        games_are = games ∙ games_told is.start.journal report.receipts.items is.batches is.receipts;
        batches_are = batches ∙ batches_told is.start.journal report.receipts.items is.batches is.receipts;
        stored_is = stored;
      }

-- ---- what is told of it

pub is_told : (came : Came) (lines chunk : List ℕ) (output output' errors errors' : Stream) (ending : Ending) → lines ≡ report came.refused.items → chunk ≡ totals came.games came.batches came.journal
    → Writes (lines ∷ []) errors errors' → Writes (chunk ∷ []) output output' → OutcomeBy (fault_by came.ending) output output' errors errors' ending → IsTold came output output' errors errors' ending
is_told came lines chunk output output' errors errors' ending lines_are chunk_is wrote printed outcome =
    let P : List ℕ → Type 0 = λ l. Writes (l ∷ []) errors errors' in
    let Q : List ℕ → Type 0 = λ l. Writes (l ∷ []) output output' in
    record { errors_are = subst P lines_are wrote; output_is = subst Q chunk_is printed; outcome = outcome }

pub outcome_of : (o : Option Fault) (fault : Fault) (output output' errors errors' : Stream) → o ≡ Some fault → OutcomeBy o output output' errors errors' (Stopped fault)
outcome_of o fault output output' errors errors' is =
    let P : Option Fault → Type 0 = λ o. OutcomeBy o output output' errors errors' (Stopped fault) in
    subst P (sym is) refl

pub outcome_none : (o : Option Fault) (ending : Ending) (output output' errors errors' : Stream) → o ≡ None → OutcomeBy None output output' errors errors' ending → OutcomeBy o output output' errors errors' ending
outcome_none o ending output output' errors errors' is outcome =
    let P : Option Fault → Type 0 = λ o. OutcomeBy o output output' errors errors' ending in
    subst P (sym is) outcome

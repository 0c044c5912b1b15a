-- What is told of a store on a disk, where nobody else stores anything.
use Rattle.std.proofs.Common.{◌≡◌, ℕ, ◌+◌, true, false, List, [], ◌∷◌, ◌++◌, length, Option, None, Some, Result, Ok, Err, refl, sym, ap, subst, ◌∙◌}
use Rattle.std.specs.List.{AllZip}
use Rattle.disk_model.specs.Disk.{DiskState}
use Rattle.explorer_model.specs.declared.archive.Batch.{Batch}
use Rattle.explorer_model.specs.declared.archive.Game.{Game}
use Rattle.explorer_model.specs.declared.fault.GameFault.{GameFault}
use Rattle.explorer_model.specs.declared.fault.Refusal.{Refusal}
use Rattle.explorer_model.specs.Journal.{IsSound, game_count}
use Rattle.explorer_model.specs.Visits.{AreGamesOf, IsTextOf, texts_of}
use Rattle.outside.specs.Stream.{Stream}
use Rattle.record_log.specs.Log.{IsFault, Log}
use Rattle.tally_rows.specs.Tally.{Counted}
use Rattle.published_index.specs.Places.{Drawing}
use Rattle.ingest_desk.specs.Causes.{Cause, HasIds, HasNoRoom, IsClosed, cause}
use Rattle.ingest_desk.specs.Commits as desk
use Rattle.ingest_desk.specs.Commits.{MayLack}
use Rattle.ingest_desk.specs.Kept.{Keeps}
use Rattle.ingest_desk.specs.Stored.{Stored, journal}
use Rattle.ingest_desk.specs.declared.fault.CommitFault.{CommitFault}
use Rattle.ingest_desk.specs.declared.fault.CommitFault.TheVariants as faults
use Rattle.ingest_desk.specs.declared.receipt.Receipt.{Receipt}
use Rattle.ingest_desk.specs.declared.report.End.{End}
use Rattle.ingest_desk.specs.declared.report.End.TheVariants as ends
use Rattle.ingest_desk.specs.declared.report.Report.{Report}
use Rattle.ingest_desk.proofs.KeptLemmas.{none_failed}
use Rattle.import_run.specs.Alone.{DiskFaultsAre, ImportsAlone, stored_in}
use Rattle.import_run.specs.Committing.{AddsBatch, Commits, CommitsTo, Known, Refuses, Store, cause_in, store_of}
use Rattle.import_run.specs.Ending.{StandsAt, StoresBy}
use Rattle.import_run.specs.Since.{Goes, IsSince}
use Rattle.import_run.specs.Taking.{Imports}
use Rattle.import_run.proofs.VerdictLemmas.{OneGame}

none_some : {A : Type 0} (x : A) → Some x ≡ None → ⊥
none_some {A} x e = cc

some_same : (a b : Store) → Some a ≡ Some b → a ≡ b
some_same a b e = cc

-- ---- games of a journal

pub same_games : OneGame → (texts : List (List ℕ)) (games others : List Game) → AllZip IsTextOf texts games → AllZip IsTextOf texts others → games ≡ others
same_games one [] [] [] a b = refl
same_games one [] [] (h ∷ hs) a b = absurd b
same_games one [] (g ∷ gs) hs a b = absurd a
same_games one (text ∷ texts) [] hs a b = absurd a
same_games one (text ∷ texts) (g ∷ gs) [] a b = absurd b
same_games one (text ∷ texts) (g ∷ gs) (h ∷ hs) a b =
    let head : g ≡ h = same_ok g h (one text (Ok g) (Ok h) a.0 b.0) in
    let tail = same_games one texts gs hs a.1 b.1 in
    λ i. head i ∷ tail i
  where
    same_ok : (g h : Game) → (let r : Result Game GameFault = Ok g in r) ≡ Ok h → g ≡ h
    same_ok g h e = cc

-- ---- one commit

module _ {D : Type 0} (one : OneGame) (disk : D → DiskState) (left_since : D → ℕ → List ℕ → Type 0) (tally : Counted) (old new : Stored D) (had has : Drawing) where
  module _ (known : Known) (is_known : Some (stored_in old) ≡ Some (store_of known)) where
    same : stored_in old ≡ store_of known
    same = some_same (stored_in old) (store_of known) is_known

    at : journal old ≡ known.journal
    at = ap (λ (s : Store). s.journal) same

    fault : old.manifest.fault ≡ known.fault
    fault = ap (λ (s : Store). s.fault) same

    failed : old.failed ≡ known.failed
    failed = ap (λ (s : Store). s.failed) same

    -- what holds of the cause by the games that are known
    refused : (P : Option Cause → Type 0) → ((games : List Game) → AreGamesOf (journal old) games → P (cause old.manifest.fault games (journal old) tally)) → P (cause_in known tally)
    refused P by =
        let G : List Batch → Type 0 = λ j. AreGamesOf j known.games in
        let J : List Batch → Type 0 = λ j. P (cause old.manifest.fault known.games j tally) in
        let F : Option (ℕ × ℕ) → Type 0 = λ f. P (cause f known.games known.journal tally) in
        subst F fault (subst J at (by known.games (subst G (sym at) known.are_games)))

    adds : desk.AddsBatch disk tally old new → AddsBatch known tally (stored_in new)
    adds is = record {
      refused = refused (λ why. why ≡ None) is.refused;
      stores = is.stores ∙ ap (λ (j : List Batch). j ++ tally.batch ∷ []) at;
      fault = ap (λ (l : Log D). l.fault) is.manifest.rest ∙ fault;
      fails = is.failed ∙ failed;
    }

    refuses : (why : Cause) → desk.Refuses why tally old new → Refuses why known tally (stored_in new)
    refuses why is = record {
      refused = refused (λ cause. cause ≡ Some why) is.refused;
      stores = is.stores ∙ at;
      fault = ap (λ (l : Log D). l.fault) is.manifest ∙ fault;
      fails = is.failed ∙ failed;
    }

    module _ {J : Type 0} where
      by_answer : (answer : Result (Receipt J) (CommitFault J)) → desk.CommitsBy disk left_since tally old new had has answer → CommitsTo known tally (stored_in new) answer
      by_answer (Ok receipt) is = (
        adds is.store,
        record {
          batches = is.receipt.batches ∙ ap (λ (j : List Batch). length j + 1) at;
          first = is.receipt.first ∙ ap game_count at;
          games = is.receipt.games;
        },
        is.told,
      )
      by_answer (Err (faults.Closed before after mark)) is = (refuses (IsClosed before after) is.store, is.marked)
      by_answer (Err (faults.Clash handed pairs note)) is = (
        refuses (HasIds pairs.items) is.store,
        is.back,
        λ games are.
            let J : List Batch → Type 0 = λ j. AreGamesOf j games in
            same_games one (texts_of known.journal) games known.games (subst J (is.told ∙ is.store.stores ∙ at) are) known.are_games,
      )
      by_answer (Err (faults.Full games bytes note)) is = (refuses (HasNoRoom games bytes) is.store, is.told)
      by_answer (Err (faults.DiskFault before after mark)) is = (
        record {
          refused = refused (λ why. why ≡ None) is.store.refused;
          stores = is.store.stores ∙ at;
          was_open = sym fault ∙ is.store.manifest.sound;
          fault = ap (λ (l : Log D). l.fault) is.store.manifest.rest;
          fails = is.store.failed;
        },
        is.marked,
      )
      by_answer (Err (faults.OutOfMemory true)) is = adds is.store
      by_answer (Err (faults.OutOfMemory false)) is = record {
        held = old.index.held;
        refused = refused (λ why. MayLack why old.index.held) is.store.refused;
        stores = is.store.stores ∙ at;
        fault = ap (λ (l : Log D). l.fault) is.store.manifest ∙ fault;
        fails = is.store.failed ∙ failed;
      }

  pub commits : {J : Type 0} (answer : Result (Receipt J) (CommitFault J)) → desk.CommitsBy disk left_since tally old new had has answer → (known : Known) → Some (stored_in old) ≡ Some (store_of known)
      → Commits answer known tally (Some (stored_in new))
  commits answer is known is_known = record { new = stored_in new; still = refl; by = by_answer known is_known answer is }

-- ---- an import

module _ {D : Type 0} (disk : D → DiskState) (left_since : D → ℕ → List ℕ → Type 0) (before after : Stored D) (since : IsSince disk left_since before after) where
  no_fault_by : (f g : Option (ℕ × ℕ)) → before.manifest.fault ≡ f → after.manifest.fault ≡ g → g ≡ f → Goes disk left_since (journal before) since.batches f g before.failed after.failed before.manifest after.manifest
      → (disk after.manifest.disk).faults ≡ (disk before.manifest.disk).faults
  no_fault_by None None a b same goes = goes.no_fault
  no_fault_by None (Some counts) a b same goes = absurd (none_some counts same)
  no_fault_by (Some counts) g a b same goes = ap (λ (l : Log D). (disk l.disk).faults) goes.0

  no_fault : after.manifest.fault ≡ before.manifest.fault → (disk after.manifest.disk).faults ≡ (disk before.manifest.disk).faults
  no_fault same = no_fault_by before.manifest.fault after.manifest.fault refl refl same since.manifest

  met_fault : (first last : ℕ) → before.manifest.fault ≡ None → after.manifest.fault ≡ Some (first, last) → IsFault first last (disk before.manifest.disk) (disk after.manifest.disk)
  met_fault first last was is =
      let F : Option (ℕ × ℕ) → Type 0 = λ f. Goes disk left_since (journal before) since.batches f after.manifest.fault before.failed after.failed before.manifest after.manifest in
      let G : Option (ℕ × ℕ) → Type 0 = λ f. Goes disk left_since (journal before) since.batches None f before.failed after.failed before.manifest after.manifest in
      (subst G is (subst F was since.manifest)).fault

  module _ {J : Type 0} where
    disk_faults : (label : List ℕ) (start : Known) (stream : List ℕ) (left_over : Option (List ℕ)) (batches stored : List Batch) (refused : List Refusal) → start.fault ≡ before.manifest.fault → (end : End J)
        → StandsAt label end start stream left_over batches refused (stored_in after) → StoresBy end stored start.fault (stored_in after) → DiskFaultsAre end (disk before.manifest.disk) (disk after.manifest.disk)
    disk_faults label start stream left_over batches stored refused was (ends.DiskFault first last mark) stands stores = met_fault first last (sym was ∙ stands.1) stores.1
    disk_faults label start stream left_over batches stored refused was ends.Whole stands stores = no_fault (stores.1 ∙ was)
    disk_faults label start stream left_over batches stored refused was (ends.ReadFault first last) stands stores = no_fault (stores.1 ∙ was)
    disk_faults label start stream left_over batches stored refused was (ends.Closed first last mark) stands stores = no_fault (stores.1 ∙ was)
    disk_faults label start stream left_over batches stored refused was (ends.Full games bytes note) stands stores = no_fault (stores.1 ∙ was)
    disk_faults label start stream left_over batches stored refused was (ends.TooMuch bytes) stands stores = no_fault (stores.1 ∙ was)
    disk_faults label start stream left_over batches stored refused was ends.OutOfMemory stands stores = no_fault (stores.1 ∙ was)

    pub imports_alone : {label : List ℕ} (report : Report J) (source source_after : Stream) → IsSound (journal before) → Keeps disk left_since (journal before) before.manifest before.failed
        → IsSound (journal after) → Keeps disk left_since (journal after) after.manifest after.failed
        → ((start : Known) → Some (stored_in before) ≡ Some (store_of start) → Imports label start source source_after report (Some (stored_in after)))
        → ImportsAlone label disk left_since source before source_after after report
    imports_alone {label} report source source_after sound keeps_before sound_after keeps imports =
        let start : Known = record { journal = journal before; fault = before.manifest.fault; failed = before.failed; games = sound.games; are_games = sound.are_games } in
        let i = imports start refl in
        let c = i.comes in
        let S : Store → Type 0 = λ s. StoresBy report.end (journal before ++ c.batches) before.manifest.fault s in
        let stores = subst S (sym (some_same (stored_in after) c.new c.still)) c.stores in
        let T : Store → Type 0 = λ s. StandsAt label report.end start i.stream source_after.left c.batches report.refused.items s in
        let stands = subst T (sym (some_same (stored_in after) c.new c.still)) c.stands in
        record {
          stream = i.stream;
          reads = i.reads;
          read_faults = i.faults;
          start = start;
          start_is = refl;
          none_failed = none_failed disk left_since before.failed (journal before) before.manifest keeps_before;
          batches = c.batches;
          receipts = c.receipts;
          stands = stands;
          repeats = i.repeats;
          stores = stores;
          sound = sound_after;
          disk_faults = disk_faults label start i.stream source_after.left c.batches (journal before ++ c.batches) report.refused.items refl report.end stands stores;
          keeps = keeps;
          since = since;
        }

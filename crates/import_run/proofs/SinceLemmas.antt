-- What one commit does to a store on a disk.
use Rattle.std.proofs.Common.{◌≡◌, ℕ, ◌≤◌, true, false, List, [], ◌∷◌, ◌++◌, Option, None, Some, Result, Ok, Err, length, sym, ap, subst, ◌∙◌}
use Rattle.std.proofs.lemmas.List.{append-nil}
use Rattle.disk_model.specs.Disk.{DiskState, LeavesOnly, MayLeave}
use Rattle.explorer_model.specs.declared.archive.Batch.{Batch}
use Rattle.explorer_model.specs.declared.archive.Game.{Game}
use Rattle.explorer_model.specs.Journal.{IsSound}
use Rattle.explorer_model.specs.StoreFile.{payload_of}
use Rattle.explorer_model.specs.Visits.{AreGamesOf}
use Rattle.record_log.specs.Log.{Adds, Breaks, EachImage, Log}
use Rattle.manifest.specs.Manifest.{HasFrontOf, HasJournal, IsWithOrWithoutBatch}
use Rattle.tally_rows.specs.Tally.{Counted}
use Rattle.published_index.specs.Places.{Drawing}
use Rattle.ingest_desk.specs.Causes.{cause}
use Rattle.ingest_desk.specs.Commits.{CommitsBy}
use Rattle.ingest_desk.specs.Kept.{Keeps}
use Rattle.ingest_desk.specs.Stored.{Stored, journal}
use Rattle.ingest_desk.specs.declared.fault.CommitFault.{CommitFault}
use Rattle.ingest_desk.specs.declared.fault.CommitFault.TheVariants as faults
use Rattle.ingest_desk.specs.declared.receipt.Receipt.{Receipt}
use Rattle.ingest_desk.proofs.KeptLemmas.{sound_manifest}
use Rattle.import_run.specs.Since.{Closes, Goes, IsSince, StaysOpen}
use Rattle.import_run.specs.SinceLaws.{one_front, since_same, weaker}

module _ {D : Type 0} (disk : D → DiskState) (left_since : D → ℕ → List ℕ → Type 0) where
  module _ (counts_now : (it : D) (t : ℕ) (image : List ℕ) → t ≤ (disk it).moment → MayLeave disk left_since it image → left_since it t image) (old new : Stored D) (tally : Counted)
      (keeps : Keeps disk left_since (journal new) new.manifest new.failed)
      (crash : old.manifest.fault ≡ None → LeavesOnly disk left_since old.manifest.disk new.manifest.disk (IsWithOrWithoutBatch (journal old) tally.batch)) where
    since_stored : journal new ≡ journal old ++ tally.batch ∷ [] → Adds disk (length (payload_of tally.batch)) old.manifest new.manifest → IsSince disk left_since old new
    since_stored more adds =
        let same : new.manifest.fault ≡ None = ap (λ (l : Log D). l.fault) adds.rest ∙ adds.sound in
        let kept = sound_manifest disk left_since new.failed (journal new) new.manifest keeps same in
        let I : List Batch → Type 0 = λ j. EachImage disk left_since new.manifest.disk (HasJournal j) in
        let F : Option (ℕ × ℕ) → Type 0 = λ f. Goes disk left_since (journal old) (tally.batch ∷ []) f new.manifest.fault old.failed new.failed old.manifest new.manifest in
        let G : Option (ℕ × ℕ) → Type 0 = λ f. Goes disk left_since (journal old) (tally.batch ∷ []) None f old.failed new.failed old.manifest new.manifest in
        let opens : StaysOpen disk left_since (journal old) (tally.batch ∷ []) old.manifest.disk new.manifest.disk = record {
          no_fault = adds.no_fault;
          crash = λ each. record {
            now = subst I more kept.images;
            meanwhile = weaker disk left_since old.manifest.disk new.manifest.disk (IsWithOrWithoutBatch (journal old) tally.batch) (HasFrontOf (journal old) (tally.batch ∷ [])) (λ image h. one_front (journal old) tally.batch image h) (crash adds.sound);
          };
        } in
        record { batches = tally.batch ∷ []; journal_is = more; manifest = subst F (sym adds.sound) (subst G (sym same) opens) }

    since_broken : (before after : ℕ) → IsSound (journal old ++ tally.batch ∷ []) → journal new ≡ journal old → Breaks disk before after old.manifest new.manifest → new.failed ≡ Some tally.batch → IsSince disk left_since old new
    since_broken before after sound same breaks failed =
        let is : new.manifest.fault ≡ Some (before, after) = ap (λ (l : Log D). l.fault) breaks.rest in
        let leaves = crash breaks.sound in
        let I : List Batch → Type 0 = λ j. EachImage disk left_since new.manifest.disk (IsWithOrWithoutBatch j tally.batch) in
        let F : Option (ℕ × ℕ) → Type 0 = λ f. Goes disk left_since (journal old) [] f new.manifest.fault old.failed new.failed old.manifest new.manifest in
        let G : Option (ℕ × ℕ) → Type 0 = λ f. Goes disk left_since (journal old) [] None f old.failed new.failed old.manifest new.manifest in
        let closes : Closes disk left_since (before, after) (journal old) [] new.failed old.manifest.disk new.manifest.disk = record {
          fault = breaks.counts;
          crash = λ each. record {
            last = tally.batch;
            is_failed = failed;
            sound = sound;
            now = subst I (sym (append-nil (journal old))) (λ image left. leaves.each image (counts_now new.manifest.disk (disk old.manifest.disk).moment image leaves.later left));
            meanwhile = weaker disk left_since old.manifest.disk new.manifest.disk (IsWithOrWithoutBatch (journal old) tally.batch) (HasFrontOf (journal old) (tally.batch ∷ [])) (λ image h. one_front (journal old) tally.batch image h) leaves;
          };
        } in
        record { batches = []; journal_is = same ∙ sym (append-nil (journal old)); manifest = subst F (sym breaks.sound) (subst G (sym is) closes) }

    module _ {J : Type 0} (had has : Drawing) (sound : IsSound (journal old))
        (behind : (games : List Game) → AreGamesOf (journal old) games → cause old.manifest.fault games (journal old) tally ≡ None → IsSound (journal old ++ tally.batch ∷ [])) where
      pub commit_since : (answer : Result (Receipt J) (CommitFault J)) → CommitsBy disk left_since tally old new had has answer → IsSince disk left_since old new
      commit_since (Ok receipt) is = since_stored is.store.stores is.store.manifest
      commit_since (Err (faults.OutOfMemory true)) is = since_stored is.store.stores is.store.manifest
      commit_since (Err (faults.OutOfMemory false)) is = since_same disk left_since old new is.store.stores is.store.manifest is.store.failed
      commit_since (Err (faults.DiskFault before after mark)) is =
          let games = sound.games in
          let are = sound.are_games in
          since_broken before after (behind games are (is.store.refused games are)) is.store.stores is.store.manifest is.store.failed
      commit_since (Err (faults.Closed before after mark)) is = since_same disk left_since old new is.store.stores is.store.manifest is.store.failed
      commit_since (Err (faults.Clash handed pairs note)) is = since_same disk left_since old new is.store.stores is.store.manifest is.store.failed
      commit_since (Err (faults.Full games bytes note)) is = since_same disk left_since old new is.store.stores is.store.manifest is.store.failed

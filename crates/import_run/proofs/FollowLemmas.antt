-- What one commit does to the published list of one who stores alone.
use Rattle.std.proofs.Common.{◌≡◌, ℕ, Bool, true, false, List, [], ◌∷◌, Option, None, Some, Result, Ok, Err, if◌then◌else◌, refl, sym, ap, subst, ◌∙◌}
use Rattle.std.proofs.lemmas.List.{append-nil}
use Rattle.plain_laws.specs.Options.{some-none}
use Rattle.disk_model.specs.Disk.{DiskState}
use Rattle.explorer_model.specs.declared.archive.Batch.{Batch}
use Rattle.explorer_model.specs.Imports.{numbers_of}
use Rattle.explorer_model.specs.Journal.{IsSound, byte_count, game_count}
use Rattle.record_log.specs.Log.{Log}
use Rattle.segment_blocks.specs.Segment.{CountedSpan}
use Rattle.tally_rows.specs.Tally.{Counted}
use Rattle.published_index.specs.Places.{Drawing}
use Rattle.ingest_desk.specs.Causes.{HasIds, HasNoRoom, IsClosed, cause, cause_by, has_no_room}
use Rattle.ingest_desk.specs.Clashes.{clashes_of}
use Rattle.ingest_desk.specs.Commits.{CommitsBy}
use Rattle.ingest_desk.specs.Installs.{list_by}
use Rattle.ingest_desk.specs.Stored.{Stored, journal}
use Rattle.ingest_desk.specs.declared.clashing.Clashing.{Clashing}
use Rattle.ingest_desk.specs.declared.fault.CommitFault.{CommitFault}
use Rattle.ingest_desk.specs.declared.fault.CommitFault.TheVariants as faults
use Rattle.ingest_desk.specs.declared.receipt.Receipt.{Receipt}
use Rattle.ingest_desk.proofs.KeptLemmas.{not_behind}
use Rattle.import_run.specs.Since.{IsSince}
use Rattle.import_run.specs.SinceLaws.{since_before, since_same}
use Rattle.import_run.specs.Upkeep.{Follows, IsMerged, IsSinceAlone, MergesBehind, StoresSame}

-- what holds of the stored values of one holds of those of the same
pub tied : {A : Type 0} (P : A → Type 0) (mid after : A) → after ≡ mid → P mid → P after
tied P mid after same holds = subst P (sym same) holds

closed_ids : (pairs : List Clashing) (before after : ℕ) → Some (HasIds pairs) ≡ Some (IsClosed before after) → ⊥
closed_ids pairs before after e = cc

closed_room : (journal : List Batch) (before after : ℕ) (full : Bool) → (if full then Some (HasNoRoom (game_count journal) (byte_count journal)) else None) ≡ Some (IsClosed before after) → ⊥
closed_room journal before after true e = cc
closed_room journal before after false e = cc

-- a store that is open has no cause of one that is closed
not_closed : (pairs : List Clashing) (journal : List Batch) (batch : Batch) (before after : ℕ) → cause_by pairs journal batch ≡ Some (IsClosed before after) → ⊥
not_closed (pair ∷ pairs) journal batch before after e = closed_ids (pair ∷ pairs) before after e
not_closed [] journal batch before after e = closed_room journal before after (has_no_room journal batch) e

module _ {D : Type 0} (disk : D → DiskState) (left_since : D → ℕ → List ℕ → Type 0) (old mid new : Stored D) (same : StoresSame mid new) where
  fault_same : mid.manifest ≡ old.manifest → mid.manifest.fault ≡ None → old.manifest.fault ≡ None
  fault_same is none = ap (λ (l : Log D). l.fault) (sym is) ∙ none

  stays : journal mid ≡ journal old → mid.index.held ≡ None → mid.index.list ≡ list_by old.index → new.index ≡ mid.index → Follows old new
  stays stored held list is = record {
    batches = [];
    journal_is = same.same_journal ∙ stored ∙ sym (append-nil (journal old));
    lists = ap list_by is ∙ not_behind mid.index held ∙ list;
  }

  module _ {J : Type 0} (tally : Counted) (had has : Drawing) (sound : IsSound (journal old)) where
    by_answer : mid.manifest.fault ≡ None → (answer : Result (Receipt J) (CommitFault J)) → CommitsBy disk left_since tally old mid had has answer
        → MergesBehind answer mid.index new.index → (old.manifest.fault ≡ None) × Follows old new
    by_answer none (Ok receipt) is merged = (
      is.store.manifest.sound,
      record {
        batches = tally.batch ∷ [];
        journal_is = same.same_journal ∙ is.store.stores;
        lists = (
          list_by new.index,
          record {
            roomy = is.list.roomy;
            room = is.list.room;
            longer = mid.index.list;
            puts = is.list.puts;
            merged = subst (λ (l : List CountedSpan). IsMerged l (list_by new.index)) (not_behind mid.index is.none_held) merged;
          },
          refl,
        );
      },
    )
    by_answer none (Err (faults.Closed before after mark)) is merged =
        let sound_before : old.manifest.fault ≡ None = fault_same is.store.manifest none in
        let C : Option (ℕ × ℕ) → Type 0 = λ f. cause f sound.games (journal old) tally ≡ Some (IsClosed before after) in
        let refused = is.store.refused sound.games sound.are_games in
        absurd (not_closed (clashes_of (numbers_of sound.games) tally.classes) (journal old) tally.batch before after (subst C sound_before refused))
    by_answer none (Err (faults.Clash handed pairs note)) is merged = (fault_same is.store.manifest none, stays is.store.stores is.none_held is.list merged)
    by_answer none (Err (faults.Full games bytes note)) is merged = (fault_same is.store.manifest none, stays is.store.stores is.none_held is.list merged)
    by_answer none (Err (faults.DiskFault before after mark)) is merged =
        let broken : mid.manifest.fault ≡ Some (before, after) = ap (λ (l : Log D). l.fault) is.store.manifest.rest in
        absurd (some-none (before, after) (sym broken ∙ none))
    by_answer none (Err (faults.OutOfMemory stored)) is merged = absurd merged

    pub commit_alone : (answer : Result (Receipt J) (CommitFault J)) → CommitsBy disk left_since tally old mid had has answer
        → IsSince disk left_since old mid → (lacked lacks now : Bool) → (lacks ≡ false → MergesBehind answer mid.index new.index)
        → (now ≡ false → (lacked ≡ false) × (lacks ≡ false)) → IsSinceAlone disk left_since old new lacked now
    commit_alone answer is since lacked lacks now merges either = record {
      since = since_before disk left_since old mid new since (since_same disk left_since mid new same.same_journal same.same_manifest same.same_failed);
      keeps_up = λ had_memory sound_now.
          let both = either had_memory in
          let sound_then : mid.manifest.fault ≡ None = ap (λ (l : Log D). l.fault) (sym same.same_manifest) ∙ sound_now in
          let follows = by_answer sound_then answer is (merges both.1) in
          record { had_memory = both.0; was_sound = follows.0; follows = follows.1 };
    }

-- What a crash leaves of an import has a sound journal.
use Rattle.std.proofs.Common.{◌≡◌, ℕ, List, [], ◌∷◌, ◌++◌, Option, None, Some, refl, sym, subst, append_assoc}
use Rattle.disk_model.specs.Disk.{DiskState, LeavesOnly}
use Rattle.explorer_model.specs.declared.archive.Batch.{Batch}
use Rattle.explorer_model.specs.Journal.{IsSound}
use Rattle.record_log.specs.Log.{EachImage, Log}
use Rattle.manifest.specs.Manifest.{HasFrontOf, HasJournal}
use Rattle.ingest_desk.specs.Stored.{Stored, journal}
use Rattle.import_run.specs.Since.{Goes, HasSoundBehind, IsSince}
use Rattle.import_run.specs.SinceLaws.{weaker}

module _ (fronts : (front rest : List Batch) → IsSound (front ++ rest) → IsSound front) where
  -- a front of batches that are sound behind a journal is sound behind it
  sound_front : (j batches : List Batch) → IsSound (j ++ batches) → (image : List ℕ)
      → HasFrontOf j batches image → HasSoundBehind j image
  sound_front j batches sound image h =
      let S : List Batch → Type 0 = λ l. IsSound (j ++ l) in
      record {
        longer = j ++ h.0;
        extends = record { rest = h.0; is = refl };
        sound = fronts (j ++ h.0) h.1 (subst IsSound (sym (append_assoc j h.0 h.1)) (subst S h.2 sound));
        has = h.3;
      }

  module _ {D : Type 0} (disk : D → DiskState) (left_since : D → ℕ → List ℕ → Type 0) where
    leaves_sound : (j batches : List Batch) (fault : Option (ℕ × ℕ)) (was failed : Option Batch)
        (old new : Log D) → Goes disk left_since j batches None fault was failed old new
        → IsSound (j ++ batches)
        → EachImage disk left_since old.disk (HasJournal j)
        → LeavesOnly disk left_since old.disk new.disk (HasSoundBehind j)
    leaves_sound j batches None was failed old new goes sound each =
        weaker disk left_since old.disk new.disk (HasFrontOf j batches) (HasSoundBehind j)
        (sound_front j batches sound) (goes.crash each).meanwhile
    leaves_sound j batches (Some counts) was failed old new goes sound each =
        let but = goes.crash each in
        let all = batches ++ but.last ∷ [] in
        weaker disk left_since old.disk new.disk (HasFrontOf j all) (HasSoundBehind j)
        (sound_front j all but.sound) but.meanwhile

    pub since_sound : (old new : Stored D) → IsSince disk left_since old new → IsSound (journal new)
        → old.manifest.fault ≡ None
        → EachImage disk left_since old.manifest.disk (HasJournal (journal old))
        → LeavesOnly disk left_since old.manifest.disk new.manifest.disk (HasSoundBehind (journal old))
    since_sound old new since sound open_is each =
        let G : Option (ℕ × ℕ) → Type 0 =
        λ f. Goes disk left_since (journal old) since.batches f new.manifest.fault old.failed new.failed old.manifest new.manifest in
        leaves_sound (journal old) since.batches new.manifest.fault old.failed new.failed old.manifest new.manifest
        (subst G open_is since.manifest) (subst IsSound since.journal_is sound) each

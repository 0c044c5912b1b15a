use Rattle.std.proofs.Common.{◌≡◌, ℕ, List, Option, Some, Result, Ok, Err, IfOk, IfSome, refl, subst}
use Rattle.std.specs.Prelude.{MatchResult}
use Rattle.disk_model.specs.Disk.{DiskState}
use Rattle.record_log.specs.declared.fault.Back.{Back}
use Rattle.record_log.specs.declared.fault.OpenFault.{OpenFault}
use Rattle.manifest.specs.Manifest.{HasJournal}
use Rattle.published_index.specs.Cover.{journal_of}
use Rattle.ingest_desk.specs.Lives.{Life}
use Rattle.ingest_desk.specs.Living.{IsOpening, IsReopened, ReopensTo}
use Rattle.ingest_desk.specs.Openings.{IsHandedBack, IsOpened}
use Rattle.ingest_desk.specs.Stored.{Nameless, Stored, stored_by}
use Rattle.store_tests.proofs.lives.open_in_life.Goals as goal

opened : {D : Type 0} (disk : D → DiskState) (left_since : D → ℕ → List ℕ → Type 0) (life : Life)
    (file : List ℕ) (before : D) (readers : ℕ) (result : Result (Nameless D) (Back D OpenFault))
    → ((life : Life) (file : List ℕ) (store : Stored D) → IsOpening disk left_since file store
    → ReopensTo life file → IsReopened disk left_since life store)
    → (disk before).content ≡ Some file → ReopensTo life file
    → MatchResult result (IsOpened disk left_since before readers) (IsHandedBack disk left_since before)
    → IfOk result (λ unnamed. IsReopened disk left_since life (stored_by unnamed))
opened disk left_since life file before readers (Ok unnamed) opens told reopens is =
    let P : Option (List ℕ) → Type 0 = λ o. IfSome o (HasJournal (journal_of unnamed.index.list)) in
    opens life file (stored_by unnamed) (record {
      read = subst P told is.read;
      sound = is.sound;
      none_failed = refl;
      recounted = is.recounted;
      images = is.images;
    }) reopens
opened disk left_since life file before readers (Err back) opens told reopens is = tt

pub returns : goal.returns
returns g c = λ life file told reopens.
    opened g.D.Disk.disk g.D.Disk.left_since life file c.args.disk c.args.readers c.open.result
    c.openings_are_events.ensures.opens told reopens c.open.ensures

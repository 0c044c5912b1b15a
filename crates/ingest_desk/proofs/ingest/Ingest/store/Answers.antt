use Rattle.std.proofs.Common.{◌≡◌, List, [], ◌∷◌, ◌++◌, None, Option, Err, length, refl, sym, ap, ◌∙◌, subst, arith}
use Rattle.std.specs.Arc.{arc_value}
use Rattle.std.specs.Option.{option_map}
use Rattle.explorer_model.specs.declared.archive.Batch.{Batch}
use Rattle.explorer_model.specs.Journal.{IsSound}
use Rattle.explorer_model.specs.StoreFile.{payload_of}
use Rattle.record_log.specs.Log.{Adds, EachImage}
use Rattle.manifest.proofs.PayloadLemmas.{texts-fit}
use Rattle.manifest.specs.Manifest.{HasJournal}
use Rattle.segment_blocks.specs.Segment.{CountedSpan}
use Rattle.tally_rows.specs.Tally.{IsCounted}
use Rattle.published_index.specs.Changes.{AddOf}
use Rattle.published_index.specs.Cover.{journal_of}
use Rattle.ingest_desk.specs.Commits.{CommitsBy, IsFaultOf, failed_after}
use Rattle.ingest_desk.specs.Kept.{Keeps}
use Rattle.ingest_desk.specs.Registers.{IsRegisterOf}
use Rattle.published_index.specs.States.{journal_by}
use Rattle.ingest_desk.proofs.CommitLemmas.{IsNotTaken, IsTaken, holds, not_taken, put, uncaused}
use Rattle.ingest_desk.proofs.KeptLemmas.{keeps_after, keeps_sound, kept_register, listed, low, made, none_failed, sound_manifest, storable}
use Rattle.ingest_desk.proofs.RegisterLemmas.{fewer_batches, first_is, fits_of, fits_same, long, register_same, sound_behind}
use Rattle.ingest_desk.proofs.ingest.Ingest.store.Goals as goal
use Rattle.ingest_desk.proofs.ingest.Ingest.store.Goals.{in-Ok-put, in-Err-put}

pub invariant_of-self : goal.invariant_of-self
invariant_of-self g c =
    let s = c.self in
    let d = g.D.Disk in
    kept_register d.disk d.left_since s.inside.manifest s.inside.publisher s.inside.register
    c.reserve.new.self s.invariant c.reserve.ensures.same

pub share_at-requires : goal.share_at-requires
share_at-requires g c =
    let s = c.self in
    let index = s.inside.publisher in
    let none : index.held ≡ None = rw (← s.view_is) at c.requires.none_held in
    let sound = s.invariant.knows.sound in
    let whole = ap length (listed index none) in
    let list = ap (λ (l : List CountedSpan). length (journal_of l)) c.list.ensures.list in
    omega (arith, c.batches-place.ensures.batches, list, whole, fewer_batches (journal_by index) sound, sound.within.0)

pub invariant_of-self-in_default : goal.invariant_of-self-in_default
invariant_of-self-in_default g c =
    let s = c.self in
    let d = g.D.Disk in
    kept_register d.disk d.left_since s.inside.manifest s.inside.publisher s.inside.register
    c.reserve.new.self s.invariant c.reserve.ensures.same

pub store-requires-clause-storable : goal.store-requires-clause-storable
store-requires-clause-storable g c =
    let tally = c.args.ready in
    let counted : IsCounted tally = c.batch-batch.ensures.counted in
    let batches = ap (λ (s : CountedSpan). s.span.batches) c.deref.ensures ∙ c.in-Ok.ensures.tally.batches in
    let batch = first_is _ tally.batch _ batches c.batch_of-batch.ensures in
    rw batch (storable tally.batch counted.batch)

pub store-requires-clause-low : goal.store-requires-clause-low
store-requires-clause-low g c =
    let s = c.self in
    let d = g.D.Disk in
    let m = s.inside.manifest in
    let j = journal_by s.inside.publisher in
    let tally = c.args.ready in
    let counted : IsCounted tally = c.batch-batch.ensures.counted in
    let batches = ap (λ (s : CountedSpan). s.span.batches) c.deref.ensures ∙ c.in-Ok.ensures.tally.batches in
    let batch = first_is _ tally.batch _ batches c.batch_of-batch.ensures in
    let open_is = rw (← s.view_is) at c.requires.open in
    let is = sound_manifest d.disk d.left_since _ j m s.invariant.keeps open_is in
    rw batch (low j tally.batch m.gate s.invariant.knows.sound is.place counted.batch.label counted.batch.few
    (texts-fit tally.batch (storable tally.batch counted.batch)))

pub invariant_of-self-in-Err : goal.invariant_of-self-in-Err
invariant_of-self-in-Err g c =
    let s = c.self in
    let d = g.D.Disk in
    let m = s.inside.manifest in
    let j = journal_by s.inside.publisher in
    let open_is = rw (← s.view_is) at c.requires.open in
    let is = sound_manifest d.disk d.left_since _ j m s.invariant.keeps open_is in
    let tally = c.args.ready in
    let counted : IsCounted tally = c.batch-batch.ensures.counted in
    let batches = ap (λ (s : CountedSpan). s.span.batches) c.deref.ensures ∙ c.in-Ok.ensures.tally.batches in
    let batch = first_is _ tally.batch _ batches c.batch_of-batch.ensures in
    let fits_are = rw (← s.view_is) at c.requires.fits in
    let sound = s.invariant.knows.sound in
    let P : Batch → Type 0 = λ b. IsSound (j ++ b ∷ []) in
    let behind = sound_behind j tally sound counted (fits_are sound.games sound.are_games) in
    record {
      knows = register_same j s.inside.register c.reserve.new.self s.invariant.knows c.reserve.ensures.same;
      keeps = rw c.failed_by.ensures (keeps_after d.disk d.left_since g.met.D.Disk.counts_now j
          c.batch_of-batch.result.now c.in-Err.fault m c.store.new.self is (subst P (sym batch) behind)
          (c.in-Err.ensures.any_moment j is) c.in-Err.ensures.cases);
    }

pub returns-in-Err-clause-answer : goal.returns-in-Err-clause-answer
returns-in-Err-clause-answer g c =
    let s = c.self in
    let d = g.D.Disk in
    let m = s.inside.manifest in
    let j = journal_by s.inside.publisher in
    let open_is = rw (← s.view_is) at c.requires.open in
    let fits = rw (← s.view_is) at c.requires.fits in
    let none = rw (← s.view_is) at c.requires.none_held in
    let room = rw (← s.view_is) at c.requires.room in
    let tally = c.args.ready in
    let fault = c.in-Err.fault in
    let batches = ap (λ (s : CountedSpan). s.span.batches) c.deref.ensures ∙ c.in-Ok.ensures.tally.batches in
    let batch = first_is _ tally.batch _ batches c.batch_of-batch.ensures in
    let none_yet = none_failed d.disk d.left_since _ j m s.invariant.keeps open_is in
    let failed = option_map (λ b. b.value) s.inside.failed in
    let failed_now = option_map (λ b. b.value) c.failed_by.result in
    let not : IsNotTaken d.disk tally (record { manifest = m; index = s.inside.publisher; failed = failed })
    (record { manifest = c.store.new.self; index = s.inside.publisher; failed = failed_now }) fault = record {
      uncaused = uncaused tally (record { manifest = m; index = s.inside.publisher; failed = failed }) open_is fits;
      open_is = open_is;
      none_held = none;
      few = room;
      none_failed = none_yet;
      index_is = refl;
      manifest = c.in-Err.ensures.cases;
      failed = c.failed_by.ensures ∙ ap (failed_after fault) batch;
    } in
    let drawer = c.args.mine.now in
    subst (λ old. CommitsBy d.disk d.left_since tally old
    (record { manifest = c.store.new.self; index = s.inside.publisher; failed = failed_now }) drawer drawer (Err c.fault_of.result)) s.view_is
    (not_taken d.disk d.left_since tally _ _ drawer fault c.fault_of.result not
    (subst (λ (b : Batch). IsFaultOf fault b c.fault_of.result) batch c.fault_of.ensures))

pub enter-requires-clause-fits : goal.enter-requires-clause-fits
enter-requires-clause-fits g c =
    let s = c.self in
    let j = journal_by s.inside.publisher in
    let r = s.inside.register in
    let same = c.reserve.ensures.same in
    let tally = c.args.ready in
    let counted : IsCounted tally = c.batch-batch.ensures.counted in
    let fits_are = rw (← s.view_is) at c.requires.fits in
    let knows = s.invariant.knows in
    let fits = fits_of j r tally knows (fits_are knows.sound.games knows.sound.are_games) in
    record {
      tally = tally;
      counted = counted;
      made_of = record {
        batches = ap (λ (s : CountedSpan). s.span.batches) c.deref-2.ensures ∙ c.in-Ok.ensures.tally.batches;
        classes = ap (λ (s : CountedSpan). s.classes) c.deref-2.ensures ∙ c.in-Ok.ensures.tally.classes;
      };
      fits = fits_same r c.reserve.new.self tally same fits;
      few = omega (arith, same.batches, same.games, knows.batches, knows.games, fewer_batches j knows.sound);
    }

pub overflow_cast-result : goal.overflow_cast-result
overflow_cast-result g c =
    let tally = c.args.ready in
    let counted : IsCounted tally = c.batch-batch.ensures.counted in
    omega (arith, ap length c.classes-games.ensures, long tally counted, counted.batch.few)

pub invariant_of-self-2 : goal.invariant_of-self-2
invariant_of-self-2 g c =
    let s = c.self in
    let d = g.D.Disk in
    let m = s.inside.manifest in
    let index = s.inside.publisher in
    let j = journal_by index in
    let tally = c.args.ready in
    let shared = c.in-Ok.segment in
    let none : index.held ≡ None = rw (← s.view_is) at c.requires.none_held in
    let open_is = rw (← s.view_is) at c.requires.open in
    let is = sound_manifest d.disk d.left_since _ j m s.invariant.keeps open_is in
    let made_of = c.in-Ok.ensures.tally in
    let batches = ap (λ (s : CountedSpan). s.span.batches) c.deref.ensures ∙ made_of.batches in
    let batch = first_is _ tally.batch _ batches c.batch_of-batch.ensures in
    let all : journal_by c.put.new.self ≡ j ++ tally.batch ∷ [] =
    made index c.put.new.self (AddOf (arc_value shared)) c.put.result none c.put.ensures.makes
    ∙ ap (λ bs. j ++ bs) made_of.batches in
    let knows = register_same j s.inside.register c.reserve.new.self s.invariant.knows c.reserve.ensures.same in
    let R : List Batch → Type 0 = λ l. IsRegisterOf l c.enter.new.self in
    let failed = option_map (λ b. b.value) s.inside.failed in
    let still = sym (none_failed d.disk d.left_since _ j m s.invariant.keeps open_is) in
    let K : List Batch → Type 0 = λ l. Keeps d.disk d.left_since l c.store.new.self failed in
    let F : Option Batch → Type 0 = λ f.
    Keeps d.disk d.left_since (j ++ c.batch_of-batch.result.now ∷ []) c.store.new.self f in
    let entered = ap (λ (s : CountedSpan). j ++ s.span.batches) c.deref-2.ensures ∙ ap (λ bs. j ++ bs) made_of.batches in
    record {
      knows = subst R (sym all) (subst R entered (c.enter.ensures j knows));
      keeps = subst K (sym all)
          (subst K (ap (λ (b : Batch). j ++ b ∷ []) batch)
          (subst F still (keeps_sound d.disk d.left_since (j ++ c.batch_of-batch.result.now ∷ [])
          c.store.new.self (c.in_default-store.ensures.stored j is))));
    }

pub returns-clause-answer : goal.returns-clause-answer
returns-clause-answer g c =
    let s = c.self in
    let d = g.D.Disk in
    let m = s.inside.manifest in
    let index = s.inside.publisher in
    let j = journal_by index in
    let tally = c.args.ready in
    let open_is = rw (← s.view_is) at c.requires.open in
    let fits = rw (← s.view_is) at c.requires.fits in
    let none : index.held ≡ None = rw (← s.view_is) at c.requires.none_held in
    let room = rw (← s.view_is) at c.requires.room in
    let is = sound_manifest d.disk d.left_since _ j m s.invariant.keeps open_is in
    let segment = arc_value c.in-Ok.segment in
    let made_of = c.in-Ok.ensures.tally in
    let batches = ap (λ (s : CountedSpan). s.span.batches) c.deref.ensures ∙ made_of.batches in
    let batch = first_is _ tally.batch _ batches c.batch_of-batch.ensures in
    let whole = ap length (listed index none) in
    let list = ap (λ (l : List CountedSpan). length (journal_of l)) c.list.ensures.list in
    let place = c.batches-place.ensures.batches in
    let starts : segment.span.first ≡ length (journal_of index.list) = omega (arith, c.in-Ok.ensures.first, place, list, whole) in
    let failed = option_map (λ b. b.value) s.inside.failed in
    let takes : IsTaken d.disk tally (record { manifest = m; index = index; failed = failed })
    (record { manifest = c.store.new.self; index = c.put.new.self; failed = failed }) segment = record {
      uncaused = uncaused tally (record { manifest = m; index = index; failed = failed }) open_is fits;
      none_held = none;
      few = room;
      manifest = subst (λ (b : Batch). Adds d.disk (length (payload_of b)) m c.store.new.self) batch c.in_default-store.ensures.cases;
      failed_is = refl;
      starts = starts;
      batch_is = made_of.batches;
      counts = c.in-Ok.ensures.counts;
    } in
    let counted : IsCounted tally = c.batch-batch.ensures.counted in
    let all : journal_by c.put.new.self ≡ j ++ tally.batch ∷ [] =
    made index c.put.new.self (AddOf segment) c.put.result none c.put.ensures.makes
    ∙ ap (λ bs. j ++ bs) made_of.batches in
    let I : List Batch → Type 0 = λ l. EachImage d.disk d.left_since c.store.new.self.disk (HasJournal l) in
    let stored = c.in_default-store.ensures.stored j is in
    let kept : I (journal_by c.put.new.self) =
    subst I (sym all) (subst I (ap (λ (b : Batch). j ++ b ∷ []) batch) stored.images) in
    rw (← s.view_is) (elim c.match-put.branch [
      | in-Ok-put w ↦
          rw w.result-is (put d.disk d.left_since tally _ _ c.args.mine.now c.put.new.mine segment takes c.put.ensures.drawn _ (record {
            batches = omega (arith, place, list, whole);
            first = c.games-first.ensures ∙ c.reserve.ensures.same.games ∙ s.invariant.knows.games;
            games = ap length c.classes-games.ensures ∙ long tally counted;
          }) w.in-Ok-put.ensures.makes kept)
      | in-Err-put w ↦ rw w.result-is (holds d.disk d.left_since tally _ _ c.args.mine.now c.put.new.mine segment takes c.put.ensures.drawn w.in-Err-put.ensures.makes)
    ])

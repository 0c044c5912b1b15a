-- What an ingest keeps, step by step.
use Rattle.std.proofs.Common.{◌≡◌, ◌<◌, ◌≤◌, ◌+◌, ◌*◌, inl, ℕ, zero, suc, true, sum_by, List, [], ◌∷◌, ◌++◌, length, map, get_or, flat_map, Option, None, Some, Result, Ok, Err, refl, sym, ap, ◌∙◌, subst, arith, length-append}
use Rattle.std.proofs.lemmas.Grind.{flat_map-append}
use Rattle.std.proofs.lemmas.List.Elements.{recursion_from_All}
use Rattle.std.proofs.lemmas.List.Sums.{sum_by-append, sum_by-cons}
use Rattle.std.specs.List.{AllByRecursion, AllZip}
use Rattle.std.specs.Prelude.{IsOk, OnOk}
use Rattle.plain_laws.specs.Options.{some-none}
use Rattle.disk_model.specs.Disk.{DiskState, LeavesOnly, MayLeave}
use Rattle.explorer_model.specs.declared.archive.Batch.{Batch}
use Rattle.explorer_model.specs.declared.archive.Game.{Game}
use Rattle.explorer_model.specs.declared.fault.GameFault.{GameFault}
use Rattle.explorer_model.specs.declared.fault.GameFault.TheVariants as faults
use Rattle.explorer_model.specs.declared.fault.TagFault.TheVariants.{Missing}
use Rattle.explorer_model.specs.declared.fault.TagName.TheVariants as names
use Rattle.explorer_model.specs.Classes.{classes, is_standard, agrees_on_set_up}
use Rattle.explorer_model.specs.Games.{Score, tagged, GameOf, GameOfScore}
use Rattle.explorer_model.specs.Items.{items, items_from}
use Rattle.explorer_model.specs.Journal.{IsBatch, IsSound, byte_count, game_count}
use Rattle.explorer_model.specs.Labels.{is_label}
use Rattle.explorer_model.specs.Parts.{meaning, parts}
use Rattle.explorer_model.specs.StoreFile.{IsStorable, gate_limit, payload_of, record_bytes, store_of, texts_field}
use Rattle.explorer_model.specs.Visits.{IsTextOf, texts_of}
use Rattle.explorer_model.proofs.LabelLemmas.{label-short}
use Rattle.manifest.proofs.PayloadLemmas.{length-texts}
use Rattle.manifest.specs.Manifest.{IsManifestOf, IsWithOrWithoutBatch}
use Rattle.record_log.specs.Log.{EachImage, IsNotAdded, Log}
use Rattle.record_log.specs.declared.fault.AppendFault.{AppendFault}
use Rattle.record_log.specs.declared.fault.AppendFault.TheVariants as appends
use Rattle.published_index.specs.Calls.{Makes, Retries}
use Rattle.published_index.specs.Changes.{AddOf, Change, JoinAt, with_held, with_put}
use Rattle.published_index.specs.Cover.{journal_of}
use Rattle.published_index.specs.States.{Publishing, journal_by}
use Rattle.ingest_desk.specs.Installs.{caught_up, list_by}
use Rattle.ingest_desk.specs.Commits.{failed_after}
use Rattle.ingest_desk.specs.Kept.{IsKept, Keeps, KeepsBy}
use Rattle.ingest_desk.specs.Registers.{IsRegisterOf, IsSame, text_bytes}
use Rattle.ingest_desk.specs.declared.register.Register.{Register}
use Rattle.ingest_desk.proofs.IdLemmas.{false_true}
use Rattle.ingest_desk.proofs.RegisterLemmas.{fewer_batches, register_same}

-- ---- the index

pub made : {E : Type 0} (old new : Publishing) (change : Change) (result : Result (List Batch) E)
    → old.held ≡ None → Makes old new change result
    → journal_by new ≡ with_put (journal_by old) change
made old new change (Ok note) none publishes =
    ap (with_held (journal_of new.list)) publishes.none_held
    ∙ publishes.journal
    ∙ ap (λ held. with_put (with_held (journal_of old.list) held) change) (sym none)
made old new change (Err e) none holds =
    ap journal_by holds ∙ ap (λ held. with_put (with_held (journal_of old.list) held) change) (sym none)

pub retried : {E : Type 0} (old new : Publishing) (held : Option Change)
    (result : Result (Option (List Batch)) E)
    → old.held ≡ held → Retries old new held result → journal_by new ≡ journal_by old
retried old new None result is same = ap journal_by same.1
retried old new (Some change) (Ok None) is never = absurd never
retried old new (Some change) (Ok (Some note)) is publishes =
    ap (with_held (journal_of new.list)) publishes.none_held
    ∙ publishes.journal
    ∙ ap (with_held (journal_of old.list)) (sym is)
retried old new (Some change) (Err e) is same = ap journal_by same

held_after : {E : Type 0} (old new : Publishing) (held : Option Change)
    (result : Result (Option (List Batch)) E)
    → old.held ≡ held → Retries old new held result → OnOk result (new.held ≡ None)
held_after old new None (Ok _) is same = ap (λ (p : Publishing). p.held) same.1 ∙ is
held_after old new None (Err e) is same = tt
held_after old new (Some change) (Ok None) is never = absurd never
held_after old new (Some change) (Ok (Some note)) is publishes = publishes.none_held
held_after old new (Some change) (Err e) is same = tt

pub none_held : {E : Type 0} (old new : Publishing) (result : Result (Option (List Batch)) E)
    → Retries old new old.held result → OnOk result (new.held ≡ None)
none_held old new result retries = held_after old new old.held result refl retries

ok_of : {E : Type 0} (result : Result (Option (List Batch)) E) → result ≡ Ok None → IsOk result
ok_of result is = rw is refl

nothing_by : {E : Type 0} (old new : Publishing) (held : Option Change)
    (result : Result (Option (List Batch)) E)
    → held ≡ None → Retries old new held result → IsOk result
nothing_by old new None result none same = ok_of result same.0
nothing_by old new (Some change) result none retries = absurd (some_none change none)
  where
    some_none : (change : Change) → Some change ≡ None → ⊥
    some_none change e = cc

pub nothing_held : {E : Type 0} (old new : Publishing) (result : Result (Option (List Batch)) E)
    → Retries old new old.held result → old.held ≡ None → IsOk result
nothing_held old new result retries none = nothing_by old new old.held result none retries

-- ---- texts with a game

no_text : (game : Game) → GameOf [] (Ok game) → ⊥
unfolding tagged parts meaning items items_from classes is_standard agrees_on_set_up
no_text game (scored, of, is) =
    let P : Result Score GameFault → Type 0 = λ r. GameOfScore r (Ok game) in
    read_none game (subst P of is)
  where
    read_none : (game : Game) → Path (Result Game GameFault) (Ok game) (Err (faults.Tag (Missing names.Event))) → ⊥
    read_none game e = cc

some_text : (text : List ℕ) (game : Game) → GameOf text (Ok game) → 0 < length text
some_text [] game is = absurd (no_text game is)
some_text (byte ∷ text) game is = omega arith

some_texts : (texts : List (List ℕ)) (games : List Game) → AllZip IsTextOf texts games → (k : ℕ)
    (d : List ℕ) → k < length texts → 1 ≤ length (get_or texts k d)
some_texts [] games zip k d lt = absurd (omega (arith, lt))
some_texts (text ∷ texts) [] zip k d lt = absurd zip
some_texts (text ∷ texts) (game ∷ games) zip zero d lt = some_text text game zip.0
some_texts (text ∷ texts) (game ∷ games) zip (suc k) d lt =
    some_texts texts games zip.1 k d (omega (arith, lt))

pub storable : (batch : Batch) → IsBatch batch → IsStorable batch
storable batch is = record {
  label = is.label;
  texts = (is.some, is.few);
  lengths = λ k d lt. (some_texts batch.texts is.games is.are_games k d lt, is.short k d lt);
}

-- ---- room in the file

abbrev label_bytes : List Batch → ℕ
label_bytes journal = sum_by (λ (batch : Batch). length batch.label) journal

short_labels : (journal : List Batch) → AllByRecursion IsBatch journal → label_bytes journal ≤ 64 * length journal
short_labels [] each = omega arith
short_labels (batch ∷ journal) each =
    omega (
      arith,
      short_labels journal each.1,
      label-short batch.label each.0.label,
      sum_by-cons (λ (b : Batch). length b.label) batch journal,
    )

size_of : (journal : List Batch) → length (flat_map record_bytes (map payload_of journal))
    ≡ 8 * length journal + label_bytes journal + 4 * length (texts_of journal) + byte_count journal
size_of [] = refl
size_of (batch ∷ journal) =
    let rest = flat_map record_bytes (map payload_of journal) in
    omega (
      arith,
      size_of journal,
      length-append (record_bytes (payload_of batch)) rest,
      length-append batch.label (texts_field batch.texts),
      sum_by-cons (λ (b : Batch). length b.label) batch journal,
      length-texts batch.texts,
      length-append batch.texts (texts_of journal),
      sum_by-append (λ (text : List ℕ). length text) batch.texts (texts_of journal),
    )

pub low : (journal : List Batch) (batch : Batch) (gate : ℕ) → IsSound journal
    → gate ≡ length (store_of journal) → is_label batch.label ≡ true → length batch.texts ≤ 512
    → text_bytes batch ≤ 33554432 → gate + 5 + length (payload_of batch) ≤ gate_limit
low journal batch gate sound place label few short =
    omega (
      arith,
      place,
      size_of journal,
      length-texts batch.texts,
      length-append batch.label (texts_field batch.texts),
      label-short batch.label label,
      short_labels journal (recursion_from_All IsBatch journal sound.batches),
      fewer_batches journal sound,
      sound.within.0,
      sound.within.1,
      few,
      short,
    )

-- ---- the disk

-- a crash leaves the journal with the batch that failed or without it, and it is sound with that
pub record LeftBroken {D : Type 0} (disk : D → DiskState) (left_since : D → ℕ → List ℕ → Type 0)
    (journal : List Batch) (manifest : Log D) (failed : Option Batch) : Type 0 where
  pub batch : Batch
  pub is_failed : failed ≡ Some batch
  pub sound : IsSound (journal ++ batch ∷ [])
  pub images : EachImage disk left_since manifest.disk (IsWithOrWithoutBatch journal batch)

module _ {D : Type 0} (disk : D → DiskState) (left_since : D → ℕ → List ℕ → Type 0) where
  sound_by : (journal : List Batch) (manifest : Log D) (fault : Option (ℕ × ℕ))
      (failed : Option Batch) → KeepsBy disk left_since journal manifest fault failed → fault ≡ None
      → IsManifestOf disk left_since journal manifest × (failed ≡ None)
  sound_by journal manifest None None keeps none = (keeps, refl)
  sound_by journal manifest None (Some batch) keeps none = absurd keeps
  sound_by journal manifest (Some counts) failed keeps none = absurd (some-none counts none)

  pub sound_manifest : (failed : Option Batch) (journal : List Batch) (manifest : Log D)
      → Keeps disk left_since journal manifest failed → manifest.fault ≡ None
      → IsManifestOf disk left_since journal manifest
  sound_manifest failed journal manifest keeps none =
      (sound_by journal manifest manifest.fault failed keeps none).0

  pub none_failed : (failed : Option Batch) (journal : List Batch) (manifest : Log D)
      → Keeps disk left_since journal manifest failed → manifest.fault ≡ None → failed ≡ None
  none_failed failed journal manifest keeps none =
      (sound_by journal manifest manifest.fault failed keeps none).1

  closed_by : (counts : ℕ × ℕ) (journal : List Batch) (manifest : Log D) (fault : Option (ℕ × ℕ))
      (failed : Option Batch) → KeepsBy disk left_since journal manifest fault failed
      → fault ≡ Some counts → LeftBroken disk left_since journal manifest failed
  closed_by counts journal manifest None failed keeps is = absurd (some-none counts (sym is))
  closed_by counts journal manifest (Some others) None keeps is = absurd keeps
  closed_by counts journal manifest (Some others) (Some batch) keeps is =
      record { batch = batch; is_failed = refl; sound = keeps.0; images = keeps.1 }

  -- what is left where a disk fault closed the store
  pub left_broken : (failed : Option Batch) (counts : ℕ × ℕ) (journal : List Batch)
      (manifest : Log D) → Keeps disk left_since journal manifest failed
      → manifest.fault ≡ Some counts → LeftBroken disk left_since journal manifest failed
  left_broken failed counts journal manifest keeps is =
      closed_by counts journal manifest manifest.fault failed keeps is

  keeps_by : (journal : List Batch) (manifest : Log D) (fault : Option (ℕ × ℕ)) → fault ≡ None
      → IsManifestOf disk left_since journal manifest
      → KeepsBy disk left_since journal manifest fault None
  keeps_by journal manifest None none is = is
  keeps_by journal manifest (Some counts) none is = absurd (some-none counts none)

  pub keeps_sound : (journal : List Batch) (manifest : Log D)
      → IsManifestOf disk left_since journal manifest → Keeps disk left_since journal manifest None
  keeps_sound journal manifest is = keeps_by journal manifest manifest.fault is.sound is

  -- a crash leaves nothing new where the disk is left alone
  pub unmoved : (journal : List Batch) (batch : Batch) (manifest : Log D)
      → IsManifestOf disk left_since journal manifest
      → LeavesOnly disk left_since manifest.disk manifest.disk (IsWithOrWithoutBatch journal batch)
  unmoved journal batch manifest is = record {
    later = omega arith;
    each = λ image left. inl (is.images image left);
    before = λ t image earlier left. inl left;
  }

  -- after a batch that was not taken, though it is sound behind the journal
  pub keeps_after :
      ((it : D) (t : ℕ) (image : List ℕ) → t ≤ (disk it).moment → MayLeave disk left_since it image
      → left_since it t image)
      → (journal : List Batch) (batch : Batch) (fault : AppendFault) (old new : Log D)
      → IsManifestOf disk left_since journal old → IsSound (journal ++ batch ∷ [])
      → LeavesOnly disk left_since old.disk new.disk (IsWithOrWithoutBatch journal batch)
      → IsNotAdded disk fault old new
      → Keeps disk left_since journal new (failed_after fault batch)
  keeps_after counts journal batch (appends.Closed before after) old new is sound leaves refuses =
      subst (λ (m : Log D). Keeps disk left_since journal m None) (sym refuses.same)
      (keeps_sound journal old is)
  keeps_after counts journal batch appends.OutOfMemory old new is sound leaves refuses =
      subst (λ (m : Log D). Keeps disk left_since journal m None) (sym refuses.same)
      (keeps_sound journal old is)
  keeps_after counts journal batch (appends.DiskFault before after) old new is sound leaves breaks =
      subst (λ (m : Log D). Keeps disk left_since journal m (Some batch)) (sym breaks.rest) (
        sound,
        λ image left. leaves.each image (counts new.disk (disk old.disk).moment image leaves.later left),
        omega (arith, breaks.counts.after_is, breaks.counts.rises.rose),
      )

  -- ---- the invariant

  pub kept_index : {failed : Option Batch} (manifest : Log D) (old new : Publishing)
      (register : Register) → IsKept disk left_since manifest old register failed
      → journal_by new ≡ journal_by old → IsKept disk left_since manifest new register failed
  kept_index {failed} manifest old new register kept same = record {
    knows = subst (λ journal. IsRegisterOf journal register) (sym same) kept.knows;
    keeps = subst (λ journal. Keeps disk left_since journal manifest failed) (sym same) kept.keeps;
  }

  pub kept_register : {failed : Option Batch} (manifest : Log D) (index : Publishing)
      (old new : Register) → IsKept disk left_since manifest index old failed → IsSame old new
      → IsKept disk left_since manifest index new failed
  kept_register manifest index old new kept same = record {
    knows = register_same (journal_by index) old new kept.knows same;
    keeps = kept.keeps;
  }

pub listed : (index : Publishing) → index.held ≡ None → journal_by index ≡ journal_of index.list
listed index none = ap (with_held (journal_of index.list)) none

-- the published games are among the stored ones
pub listed_games : (index : Publishing) → game_count (journal_of index.list) ≤ game_count (journal_by index)
listed_games index = by index.held refl
  where
    by : (held : Option Change) → index.held ≡ held
        → game_count (journal_of index.list) ≤ game_count (journal_by index)
    by None is = omega (arith, ap (λ h. game_count (with_held (journal_of index.list) h)) is)
    by (Some (JoinAt at segment)) is =
        omega (arith, ap (λ h. game_count (with_held (journal_of index.list) h)) is)
    by (Some (AddOf segment)) is =
        let front = journal_of index.list in
        let more = segment.span.batches in
        omega (
          arith,
          ap (λ h. game_count (with_held front h)) is,
          ap length (flat_map-append (λ (batch : Batch). batch.texts) front more),
          length-append (texts_of front) (texts_of more),
        )

-- the list is the one that is caught up with where nothing is held
pub not_behind : (index : Publishing) → index.held ≡ None → list_by index ≡ index.list
not_behind index none = ap (caught_up index.list) none

caught_by : {E : Type 0} (old new : Publishing) (held : Option Change)
    (result : Result (Option (List Batch)) E)
    → old.held ≡ held → Retries old new held result → IsOk result → list_by old ≡ new.list
caught_by old new None result is same ok =
    ap (caught_up old.list) is ∙ sym (ap (λ (p : Publishing). p.list) same.1)
caught_by old new (Some change) (Ok None) is never ok = absurd never
caught_by old new (Some change) (Ok (Some told)) is publishes ok =
    ap (caught_up old.list) is ∙ sym publishes.list
caught_by old new (Some change) (Err e) is same ok = absurd (false_true ok)

-- after a change was caught up with
pub caught : {E : Type 0} (old new : Publishing) (result : Result (Option (List Batch)) E)
    → Retries old new old.held result → IsOk result → new.held ≡ None → list_by new ≡ list_by old
caught old new result retries ok none =
    not_behind new none ∙ sym (caught_by old new old.held result refl retries ok)

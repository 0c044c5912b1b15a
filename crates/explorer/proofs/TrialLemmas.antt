-- How a run of `trial` ends.
pub mod Bytes
pub mod Samples
pub mod NewGame
pub mod LastGame
pub mod DefaultQuery
pub mod Segments
pub mod Sizes
use Rattle.std.proofs.Common.{◌≡◌, ℕ, ◌<◌, ◌-◌, ◌^◌, ◌≤◌, List, [], ◌∷◌, ◌++◌, Option, None, Some, Ok, length, map, refl, sym, ap, subst, ◌∙◌, arith}
use Rattle.disk_model.specs.Disk.{DiskState}
use Rattle.outside.specs.Stream.{Stream}
use Rattle.explorer_model.specs.declared.answer.Found.{Found}
use Rattle.explorer_model.specs.declared.archive.Batch.{Batch}
use Rattle.explorer_model.specs.declared.archive.Game.{Game}
use Rattle.explorer_model.specs.declared.archive.Placed.{Placed}
use Rattle.explorer_model.specs.declared.fault.Refusal.{Refusal}
use Rattle.explorer_model.specs.Cuts.{cuts}
use Rattle.explorer_model.specs.declared.query.Query.{Query}
use Rattle.explorer_model.specs.Fen.{FenReads, fen_text}
use Rattle.explorer_model.specs.Finds.{IsFound}
use Rattle.explorer_model.specs.Labels.{no_label}
use Rattle.explorer_model.specs.Imports.{Accounted, groups}
use Rattle.explorer_model.specs.Visits.{IsTextOf, texts_of}
use Rattle.ingest_desk.specs.Importers.{ending_of}
use Rattle.ingest_desk.specs.Installs.{caught_up, list_by}
use Rattle.ingest_desk.specs.Listing.{JoinsPicked}
use Rattle.ingest_desk.specs.Picking.{HasNoneDue}
use Rattle.ingest_desk.specs.Stored.{Stored, journal}
use Rattle.ingest_desk.specs.declared.report.End.{End}
use Rattle.ingest_desk.specs.declared.report.End.TheVariants as ends
use Rattle.ingest_desk.specs.declared.report.ImportEnding.{ImportEnding}
use Rattle.ingest_desk.specs.declared.report.ImportEnding.TheVariants as endings
use Rattle.ingest_desk.specs.declared.report.Report.{Report}
use Rattle.import_run.specs.Alone.{ImportsAlone, stored_in}
use Rattle.import_run.specs.Committing.{Known, Store}
use Rattle.import_run.specs.Ending.{StandsAt, StoresBy}
use Rattle.import_run.specs.Faultless.{StoresAll}
use Rattle.import_run.specs.Upkeep.{Follows}
use Rattle.import_run.proofs.LawLemmas.{all_taken}
use Rattle.published_index.specs.Changes.{Change, with_held}
use Rattle.published_index.specs.Cover.{journal_of}
use Rattle.published_index.specs.States.{Publishing}
use Rattle.segment_blocks.specs.Segment.{CountedSpan}
use Rattle.rand_pcg.specs.Lcg.{Lcg}
use Rattle.sample_games.specs.Samples.{HasGame, IsSample}
use Rattle.sample_games.specs.Streams.{generator, joined}
use Rattle.explorer.specs.declared.trial.Tried.{Tried}
use Rattle.explorer.specs.Imported.{new_store}
use Rattle.explorer.specs.Trial.Segments.{AreJoined, GoAllBehind}
use Rattle.explorer.specs.Trial.{StoresTexts, TellsTrial, batch_sizes, position_behind, segment_sizes, summary}
use Rattle.explorer.specs.Trial.Trying.{AreDrawn, IsLastOf, IsReadable, IsStreamOf, IsTriedOf}
use Rattle.explorer.proofs.TrialLemmas.LastGame.{last_readable}
use Rattle.explorer.proofs.TrialLemmas.NewGame.{bytes_placed, placed_at}
use Rattle.explorer.proofs.NewStoreLemmas.{known_is_new}
use Rattle.explorer.proofs.TrialLemmas.Segments.{joined_more, joined_none}
use Rattle.explorer.proofs.TrialLemmas.Sizes.{sizes_apart, sizes_behind, sizes_join}

-- ---- the end of an import

-- an import of new games that find room ends so, where no call fails
abbrev pub IsWholeOrLacks : ImportEnding → Type 0
IsWholeOrLacks endings.Whole = Unit {0}
IsWholeOrLacks endings.OutOfMemory = Unit {0}
IsWholeOrLacks _ = ⊥

-- it ends in no other way
pub other_end : (told : ImportEnding) → IsWholeOrLacks told → (told ≡ endings.Whole → ⊥) → (told ≡ endings.OutOfMemory → ⊥) → ⊥
other_end endings.Whole so whole lacks = whole refl
other_end (endings.ReadFault first last) so whole lacks = so
other_end (endings.DiskFault first last) so whole lacks = so
other_end (endings.Closed first last) so whole lacks = so
other_end (endings.Full games bytes) so whole lacks = so
other_end (endings.TooMuch bytes) so whole lacks = so
other_end endings.OutOfMemory so whole lacks = lacks refl

module _ {J : Type 0} where
  pub ends_so : (end : End J) (before after : List Batch) (texts : List Placed) (refused : List Refusal) → StoresAll end before texts refused after → IsWholeOrLacks (ending_of end)
  ends_so ends.Whole before after texts refused all = tt
  ends_so (ends.ReadFault first last) before after texts refused all = absurd all
  ends_so (ends.DiskFault first last mark) before after texts refused all = absurd all
  ends_so (ends.Closed first last mark) before after texts refused all = absurd all
  ends_so (ends.Full games bytes note) before after texts refused all = absurd all
  ends_so (ends.TooMuch bytes) before after texts refused all = absurd all
  ends_so ends.OutOfMemory before after texts refused all = tt

  is_whole : (end : End J) → ending_of end ≡ endings.Whole → end ≡ ends.Whole
  is_whole ends.Whole is = refl
  is_whole (ends.ReadFault first last) is = cc
  is_whole (ends.DiskFault first last mark) is = cc
  is_whole (ends.Closed first last mark) is = cc
  is_whole (ends.Full games bytes note) is = cc
  is_whole (ends.TooMuch bytes) is = cc
  is_whole ends.OutOfMemory is = cc

-- ---- what is stored

module _ {D J : Type 0} (disk : D → DiskState) (left_since : D → ℕ → List ℕ → Type 0) (source source_after : Stream) (before after : Stored D) (report : Report J)
    (is : ImportsAlone no_label disk left_since source before source_after after report) (stream : List ℕ) (told : source.left ≡ Some stream) (open_is : before.manifest.fault ≡ None) (empty : journal before ≡ [])
    (ending : ImportEnding) (ended : ending ≡ ending_of report.end) (whole : ending ≡ endings.Whole) (texts : List (List ℕ)) (of_texts : stream ≡ joined texts)
    (all : StoresAll report.end (journal before) (placed_at 0 texts) report.refused.items (journal after)) where
  end_is : report.end ≡ ends.Whole
  end_is = is_whole report.end (sym ended ∙ whole)

  start_journal : is.start.journal ≡ []
  start_journal = ap (λ (s : Store). s.journal) is.start_is ∙ empty

  start_is : is.start ≡ new_store
  start_is =
      let started = ap (λ (s : Store). s.fault) is.start_is ∙ open_is in
      known_is_new is.start start_journal started (is.none_failed started)

  -- no call of the disk failed
  pub still_open : after.manifest.fault ≡ None
  still_open =
      let stores = subst (λ (e : End J). StoresBy e (is.start.journal ++ is.batches) is.start.fault (stored_in after)) end_is is.stores in
      stores.1 ∙ ap (λ (k : Known). k.fault) start_is

  -- the texts are stored
  pub stores_texts : StoresTexts texts (journal after)
  stores_texts =
      let stands = subst (λ (e : End J). StandsAt no_label e is.start is.stream source_after.left is.batches report.refused.items (stored_in after)) end_is is.stands in
      let stores = subst (λ (e : End J). StoresBy e (is.start.journal ++ is.batches) is.start.fault (stored_in after)) end_is is.stores in
      let whole_all = subst (λ (e : End J). StoresAll e (journal before) (placed_at 0 texts) report.refused.items (journal after)) end_is all in
      let games_are : is.start.games ≡ [] = ap (λ (k : Known). k.games) start_is in
      let stream_is : is.stream ≡ joined texts = all_taken source.left source_after.left stream is.stream told is.reads.next stands.0 ∙ of_texts in
      let batches_are : is.batches ≡ journal after = sym (stores.0 ∙ ap (λ (j : List Batch). j ++ is.batches) start_journal) in
      let A : List Game → List ℕ → List Batch → List Refusal → Type 0 = λ g s b r. Accounted no_label g (groups (cuts s)) b r in
      record {
        accounted =
            subst (λ (r : List Refusal). A [] (joined texts) (journal after) r) whole_all.0
            (subst (λ (b : List Batch). A [] (joined texts) b report.refused.items) batches_are
            (subst (λ (s : List ℕ). A [] s is.batches report.refused.items) stream_is
            (subst (λ (g : List Game). A g is.stream is.batches report.refused.items) games_are stands.2.accounted)));
        texts_are =
            whole_all.1 ∙ ap (λ (j : List Batch). texts_of j ++ map (λ (text : Placed). text.bytes) (placed_at 0 texts)) empty ∙ bytes_placed 0 texts;
      }

-- the segments have as many games as batches of so many come to
pub goes_behind : {D : Type 0} (before after : Stored D) → journal before ≡ [] → list_by before.index ≡ [] → Follows before after → GoAllBehind (batch_sizes (journal after)) [] (segment_sizes (list_by after.index))
goes_behind before after empty unlisted follows =
    let batches : follows.batches ≡ journal after = sym (follows.journal_is ∙ ap (λ (j : List Batch). j ++ follows.batches) empty) in
    let list = list_by after.index in
    subst (λ (b : List Batch). GoAllBehind (batch_sizes b) [] (segment_sizes list)) batches
    (subst (λ (l : List CountedSpan). GoAllBehind (batch_sizes follows.batches) (segment_sizes l) (segment_sizes list)) unlisted
    (sizes_behind follows.batches (list_by before.index) list follows.lists))

-- ---- joins

-- a list that caught up has nothing held
pub listed : (list : List CountedSpan) (held : Option Change) → held ≡ None → caught_up list held ≡ list
listed list held none = ap (caught_up list) none

pub join_first : (old : Publishing) (list : List CountedSpan) (held : Option Change) (new : List ℕ) → JoinsPicked (list_by old) list → held ≡ None → AreJoined (segment_sizes (caught_up list held)) new → AreJoined (segment_sizes (list_by old)) new
join_first old list held new joins none later =
    joined_more (segment_sizes (list_by old)) (segment_sizes list) new (sizes_join (list_by old) list joins)
    (subst (λ (l : List CountedSpan). AreJoined (segment_sizes l) new) (listed list held none) later)

pub join_none : (old : Publishing) (list : List CountedSpan) → list ≡ list_by old → HasNoneDue list → AreJoined (segment_sizes (list_by old)) (segment_sizes list)
join_none old list is none =
    subst (λ (l : List CountedSpan). AreJoined (segment_sizes l) (segment_sizes list)) is (joined_none (segment_sizes list) (sizes_apart list none))

-- a count of faults that is 0
pub zero_fits : 0 < 2 ^ 64 - 1
zero_fits = omega arith

-- what is published is what was stored, where nothing is held
pub all_published : (list : List CountedSpan) (held : Option Change) (stored : List Batch) → held ≡ None → with_held (journal_of list) held ≡ stored → journal_of list ≡ stored
all_published list held stored none same = sym (ap (with_held (journal_of list)) none) ∙ same

-- what is found over what is published is found over what was stored
pub found_over : (told index : Publishing) (stored : List Batch) (query : Query) (found : Found) → told ≡ index → journal_of index.list ≡ stored → IsFound (journal_of told.list) query found → IsFound stored query found
found_over told index stored query found same covers is =
    subst (λ (j : List Batch). IsFound j query found) covers (subst (λ (p : Publishing). IsFound (journal_of p.list) query found) same is)

-- ---- the samples that were drawn

last_is : (texts : List (List ℕ)) (last : List ℕ) → 1 ≤ length texts → IsLastOf texts last → (earlier : List (List ℕ)) × (texts ≡ earlier ++ last ∷ [])
last_is [] last some is = absurd (omega (arith, some))
last_is (text ∷ texts) last some is = is

module _ (games seed : ℕ) (stream last : List ℕ) (draws : Lcg) (are : AreDrawn games seed stream last draws) where
  -- they make the stream
  pub drawn_stream : games ≤ 131072 → IsStreamOf are.texts stream
  drawn_stream few = record {
    seed = seed;
    are_samples = record { behind = draws; drawn = are.drawn; count = refl };
    few = omega (arith, are.count, few);
    short = are.short;
    joined_is = are.joined_is;
  }

  module _ (some : 1 ≤ games) where
    last_of : (earlier : List (List ℕ)) × (are.texts ≡ earlier ++ last ∷ [])
    last_of = last_is are.texts last (omega (arith, are.count, some)) are.last_is

    -- the last of them can be read
    pub drawn_readable : ((index : ℕ) (before behind : Lcg) (text : List ℕ) → (sample : IsSample index before text behind) → HasGame index text sample.moves) → IsReadable last
    drawn_readable has = last_readable has 0 (generator seed) draws are.texts last_of.0 last are.drawn are.short last_of.1

    -- what is told of them
    pub tells_trial : IsReadable last → (tried : Tried) → IsTriedOf are.texts tried → (fen lines : List ℕ) → ((game : Game) → IsTextOf last game → FenReads fen (Ok (position_behind game.root game.moves)))
        → ((game : Game) → IsTextOf last game → fen ≡ fen_text (position_behind game.root game.moves)) → lines ≡ summary games tried.batches tried.segments tried.totals fen → TellsTrial games seed lines
    tells_trial readable tried (batches, stores, over) fen lines reads written is = record {
      texts = are.texts;
      are_samples = record { behind = draws; drawn = are.drawn; count = are.count };
      batches = batches;
      stores = stores;
      segments = over.segments;
      drained = over.drained;
      found = over.found;
      is_found = over.is_found;
      fen = fen;
      tells_last = record { earlier = last_of.0; text = last; texts_are = last_of.1; game = readable.game; is_game = readable.is_game; fen_is = written readable.game readable.is_game; reads = reads readable.game readable.is_game };
      lines_are = is ∙ (λ i. summary games (over.batches_are i) (over.segments_are i) (over.totals_are i) fen);
    }

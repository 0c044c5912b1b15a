-- A trial of so many games from one seed writes one thing, where memory is there and no write fails.
use Rattle.std.proofs.Common.{◌≡◌, ℕ, ◌+◌, ◌-◌, ◌<◌, ◌^◌, List, [], ◌∷◌, ◌++◌, length, map, Option, Ok, refl, sym, ap, subst, ◌∙◌, arith, length-append}
use Rattle.std.specs.Prelude.{◌≢◌, IsSome}
use Rattle.std.specs.Io.KnownBytes.{append_known}
use Rattle.std.proofs.lemmas.List.{length-map}
use Rattle.outside.specs.Stream.{Stream}
use Rattle.explorer_model.specs.declared.answer.Found.{Found}
use Rattle.explorer_model.specs.declared.archive.Batch.{Batch}
use Rattle.explorer_model.specs.declared.archive.Game.{Game}
use Rattle.explorer_model.specs.declared.fault.Refusal.{Refusal}
use Rattle.explorer_model.specs.declared.query.BadParameter.{BadParameter}
use Rattle.explorer_model.specs.declared.query.Query.{Query}
use Rattle.explorer_model.specs.Cuts.{cuts}
use Rattle.explorer_model.specs.Fen.{fen_text}
use Rattle.explorer_model.specs.Finds.{IsFound}
use Rattle.explorer_model.specs.Labels.{no_label}
use Rattle.explorer_model.specs.Imports.{Accounted, groups}
use Rattle.explorer_model.specs.Visits.{IsTextOf}
use Rattle.explorer_model.proofs.Readings.{Ok-injective}
use Rattle.rand_pcg.specs.Lcg.{Lcg}
use Rattle.sample_games.specs.Samples.{IsSample}
use Rattle.sample_games.specs.Streams.{AreSamples, generator, joined}
use Rattle.import_run.proofs.VerdictLemmas.{OneGame}
use Rattle.import_run.proofs.LawLemmas.{no_rise}
use Rattle.segment_blocks.specs.Segment.{CountedSpan}
use Rattle.explorer.specs.declared.fault.Fault.TheVariants as faults
use Rattle.explorer.specs.Laws.{IsToldOutput, WritesWell}
use Rattle.explorer.specs.Lines.{Ending, Done, Stopped, status_of}
use Rattle.explorer.specs.Trial.Segments.{AreDrained}
use Rattle.explorer.specs.Trial.{StoresTexts, TellsLast, TellsTrial, TriesBy, batch_sizes, position_behind, segment_sizes, summary}
use Rattle.explorer.specs.World.{World}
use Rattle.explorer.proofs.TrialLemmas.LastGame.{one_game}
use Rattle.explorer.proofs.LawLemmas.{OneAnswer}
use Rattle.explorer.proofs.LawLemmas.NoRoom.{OneAccount}
use Rattle.explorer.proofs.LawLemmas.OneEnding.{OneQuery, appended}
use Rattle.explorer.proofs.TrialLemmas.Segments.{one_drained}

-- ---- the samples

-- what a lower crate says: a number and a generator have one sample
abbrev pub OneSample : Type 0
OneSample = (index : ℕ) (before behind other_behind : Lcg) (text other : List ℕ) → IsSample index before text behind → IsSample index before other other_behind → (text ≡ other) × (behind ≡ other_behind)

same_samples : OneSample → (first : ℕ) (before behind behind' : Lcg) (texts texts' : List (List ℕ)) → AreSamples first before texts behind → AreSamples first before texts' behind' → length texts ≡ length texts' → texts ≡ texts'
same_samples one first before behind behind' [] [] are are' long = refl
same_samples one first before behind behind' [] (other ∷ texts') are are' long = absurd (omega (arith, long))
same_samples one first before behind behind' (text ∷ texts) [] are are' long = absurd (omega (arith, long))
same_samples one first before behind behind' (text ∷ texts) (other ∷ texts') (next, sample, rest) (next', sample', rest') long =
    let same = one first before next next' text other sample sample' in
    let moved = subst (λ (l : Lcg). AreSamples (first + 1) l texts behind) same.1 rest in
    let later = same_samples one (first + 1) next' behind behind' texts texts' moved rest' (omega (arith, long)) in
    λ i. same.0 i ∷ later i

-- ---- where the last one ends

same_last : (earlier earlier' : List (List ℕ)) (text text' : List ℕ) → earlier ++ text ∷ [] ≡ earlier' ++ text' ∷ [] → text ≡ text'
same_last [] [] text text' all = cc
same_last [] (other ∷ earlier') text text' all = absurd (omega (arith, ap (λ (l : List (List ℕ)). length l) all, length-append earlier' (text' ∷ [])))
same_last (other ∷ earlier) [] text text' all = absurd (omega (arith, ap (λ (l : List (List ℕ)). length l) all, length-append earlier (text ∷ [])))
same_last (one ∷ earlier) (other ∷ earlier') text text' all = same_last earlier earlier' text text' cc

same_fen : OneGame → (texts : List (List ℕ)) (fen fen' : List ℕ) → TellsLast texts fen → TellsLast texts fen' → fen ≡ fen'
same_fen one texts fen fen' a b =
    let text : a.text ≡ b.text = same_last a.earlier b.earlier a.text b.text (sym a.texts_are ∙ b.texts_are) in
    let game : a.game ≡ b.game = one_game one b.text a.game b.game (subst (λ (t : List ℕ). IsTextOf t a.game) text a.is_game) b.is_game in
    a.fen_is ∙ ap (λ (g : Game). fen_text (position_behind g.root g.moves)) game ∙ sym b.fen_is

-- ---- what is stored and found

same_stored : OneAccount → (texts : List (List ℕ)) (batches batches' : List Batch) → StoresTexts texts batches → StoresTexts texts batches' → batches ≡ batches'
same_stored one texts batches batches' a b = one.batches no_label [] (groups (cuts (joined texts))) batches batches' [] [] a.accounted b.accounted

same_count : (batches : List Batch) (segments segments' : List CountedSpan) → AreDrained (batch_sizes batches) (segment_sizes segments) → AreDrained (batch_sizes batches) (segment_sizes segments') → length segments ≡ length segments'
same_count batches segments segments' a b =
    let size : CountedSpan → ℕ = λ s. length s.classes in
    let same = one_drained (batch_sizes batches) (segment_sizes segments) (segment_sizes segments') a b in
    sym (length-map segments size) ∙ ap (λ (l : List ℕ). length l) same ∙ length-map segments' size

-- ---- the lines

module _ (games seed : ℕ) (one : OneGame) (accounts : OneAccount) (sample : OneSample) (found_once : OneAnswer) (query_once : OneQuery) where
  same_lines : (lines lines' : List ℕ) → TellsTrial games seed lines → TellsTrial games seed lines' → lines ≡ lines'
  same_lines lines lines' a b =
      let texts : a.texts ≡ b.texts =
      same_samples sample 0 (generator seed) a.are_samples.behind b.are_samples.behind a.texts b.texts a.are_samples.drawn b.are_samples.drawn (a.are_samples.count ∙ sym b.are_samples.count) in
      let batches : a.batches ≡ b.batches = same_stored accounts b.texts a.batches b.batches (subst (λ (t : List (List ℕ)). StoresTexts t a.batches) texts a.stores) b.stores in
      let segments : length a.segments ≡ length b.segments =
      same_count b.batches a.segments b.segments (subst (λ (l : List Batch). AreDrained (batch_sizes l) (segment_sizes a.segments)) batches a.drained.drained) b.drained.drained in
      let query : a.is_found.query ≡ b.is_found.query = Ok-injective a.is_found.query b.is_found.query (query_once [] (Ok a.is_found.query) (Ok b.is_found.query) a.is_found.asks b.is_found.asks) in
      let over : IsFound b.batches b.is_found.query a.found =
      subst (λ (q : Query). IsFound b.batches q a.found) query (subst (λ (l : List Batch). IsFound l a.is_found.query a.found) batches a.is_found.is_found) in
      let found : a.found ≡ b.found = found_once b.batches b.is_found.query a.found b.found over b.is_found.is_found in
      let fen : a.fen ≡ b.fen = same_fen one b.texts a.fen b.fen (subst (λ (t : List (List ℕ)). TellsLast t a.fen) texts a.tells_last) b.tells_last in
      a.lines_are ∙ (λ i. summary games (length (batches i)) (segments i) (found i).totals (fen i)) ∙ sym b.lines_are

  -- ---- two runs

  abbrev Comes : World → World → Ending → Type 0
  Comes before after ending = (ending ≡ Done) × ((lines : List ℕ) × TellsTrial games seed lines
      × (after ≡ record before { output = record before.output { written = append_known before.output.written lines } }))

  comes : (before after : World) (ending : Ending) → IsToldOutput before → WritesWell before after → status_of ending ≢ 9 → TriesBy games seed before after ending → Comes before after ending
  comes before after Done told well fed by =
      let written = appended before.output.written after.output.written by.lines told.output by.wrote.appended in
      let output : after.output ≡ record before.output { written = append_known before.output.written by.lines } =
      by.wrote.rest ∙ ap (λ (w : Option (List ℕ)). record before.output { written = w }) written in
      (refl, (by.lines, by.tells, by.rest ∙ ap (λ (s : Stream). record before { output = s }) output))
  comes before after (Stopped faults.WriteFault) told well fed by = absurd (no_rise before.output.write_faults after.output.write_faults well told.writes by.wrote.rises)
  comes before after (Stopped faults.OutOfMemory) told well fed by = absurd (fed refl)
  comes before after (Stopped faults.Usage) told well fed by = absurd by
  comes before after (Stopped (faults.BadParameter name)) told well fed by = absurd by
  comes before after (Stopped faults.BadLabel) told well fed by = absurd by
  comes before after (Stopped faults.SpillFault) told well fed by = absurd by
  comes before after (Stopped (faults.SpillDamaged part)) told well fed by = absurd by
  comes before after (Stopped faults.OpeningsTooLong) told well fed by = absurd by
  comes before after (Stopped (faults.BadOpenings row cause)) told well fed by = absurd by
  comes before after (Stopped faults.ReadFault) told well fed by = absurd by
  comes before after (Stopped faults.DiskFault) told well fed by = absurd by
  comes before after (Stopped (faults.NotEmpty size)) told well fed by = absurd by
  comes before after (Stopped faults.NotAStore) told well fed by = absurd by
  comes before after (Stopped (faults.OtherFormat number)) told well fed by = absurd by
  comes before after (Stopped (faults.Damaged gate)) told well fed by = absurd by
  comes before after (Stopped (faults.Full games' bytes)) told well fed by = absurd by
  comes before after (Stopped (faults.CannotOpen name)) told well fed by = absurd by
  comes before after (Stopped faults.CannotAccept) told well fed by = absurd by
  comes before after (Stopped faults.TooMuchInput) told well fed by = absurd by

  same_coming : (before after other : World) (ending ending' : Ending) → Comes before after ending → Comes before other ending' → (ending ≡ ending') × (after ≡ other)
  same_coming before after other ending ending' (is, a) (is', b) =
      let same = same_lines a.0 b.0 a.1 b.1 in (
        is ∙ sym is',
        a.2 ∙ ap (λ (l : List ℕ). record before { output = record before.output { written = append_known before.output.written l } }) same ∙ sym b.2,
      )

  pub one_trial : (before after other : World) (ending ending' : Ending) → IsToldOutput before → WritesWell before after → WritesWell before other → status_of ending ≢ 9 → status_of ending' ≢ 9
      → TriesBy games seed before after ending → TriesBy games seed before other ending' → (ending ≡ ending') × (after ≡ other)
  one_trial before after other ending ending' told well well' fed fed' by by' =
      same_coming before after other ending ending' (comes before after ending told well fed by) (comes before other ending' told well' fed' by')

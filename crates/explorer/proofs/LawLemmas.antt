-- What is determined of a run: what is stored and refused of groups, and the answer.
pub mod Apart
pub mod NoRoom
pub mod OneEnding
pub mod Run
pub mod Openings
pub mod Count
pub mod Drawn
pub mod ToldStore
pub mod Creation
pub mod Migrate
pub mod KeptStore
pub mod Question
pub mod Spill
pub mod Listing
pub mod ImportHost
pub mod Import
pub mod Serve
pub mod Door
pub mod Trial
pub mod StoreRun
use Rattle.std.proofs.Common.{◌≡◌, ℕ, ◌⊎◌, inl, inr, List, [], ◌∷◌, ◌++◌, Option, None, Some, refl, sym, ap, ap₂, subst, ◌∙◌}
use Rattle.std.specs.Prelude.{IsSome}
use Rattle.std.specs.Io.KnownBytes.{Consumes, IsAtEnd}
use Rattle.std.proofs.lemmas.List.{append-nil}
use Rattle.explorer_model.specs.declared.answer.Found.{Found}
use Rattle.explorer_model.specs.declared.archive.Batch.{Batch}
use Rattle.explorer_model.specs.declared.archive.Game.{Game}
use Rattle.explorer_model.specs.declared.chess.Move.{Move}
use Rattle.explorer_model.specs.declared.fault.Refusal.{Refusal}
use Rattle.explorer_model.specs.declared.opening.Naming.{Naming}
use Rattle.explorer_model.specs.declared.query.Query.{Query}
use Rattle.explorer_model.specs.Cuts.{Cut, cuts}
use Rattle.explorer_model.specs.Finds.{IsFound}
use Rattle.explorer_model.specs.Labels.{no_label}
use Rattle.explorer_model.specs.Imports.{Accounted, Candidate, groups}
use Rattle.explorer_model.specs.Journal.{IsSound, byte_count, game_count}
use Rattle.explorer_model.specs.Openings.{IsNaming, NamedPosition}
use Rattle.explorer_model.specs.Visits.{AreGamesOf, texts_of}
use Rattle.ingest_desk.specs.Reporting.{FindsNoRoom}
use Rattle.import_run.specs.Committing.{Known}
use Rattle.import_run.specs.Ending.{EndsIn, IsCutOff, IsTooMuch}
use Rattle.import_run.specs.SoFar.{AreInGroups, ended_cuts}
use Rattle.import_run.proofs.AccountLemmas.{refused_behind, batches_behind}
use Rattle.import_run.proofs.AloneLemmas.{same_games}
use Rattle.import_run.proofs.LawLemmas.{same_front, same_settled}
use Rattle.import_run.proofs.VerdictLemmas.{OneGame}
use Rattle.explorer.specs.Answer.{IsNamingOf}
use Rattle.explorer.specs.Count.{Answers}
use Rattle.explorer.specs.Imported.{new_store}
use Rattle.explorer.specs.World.{World}
use Rattle.explorer.proofs.LawLemmas.NoRoom.{OneAccount, accounted_by, lost_is, not_stored}

-- ---- imports that break off

pub one_cut_off : (label stream : List ℕ) (batches others : List Batch) (refused other : List Refusal) → OneAccount → IsCutOff label new_store stream batches refused → IsCutOff label new_store stream others other
    → (batches ≡ others) × (refused ≡ other)
one_cut_off label stream batches others refused other one first second =
    same_settled {label = label} (one.batches label) (one.refused label) new_store new_store stream first.whole second.whole first.hand second.hand batches others refused other refl first.in_groups second.in_groups first.settled second.settled

pub one_too_much : (label stream : List ℕ) (batches others : List Batch) (refused other : List Refusal) → OneAccount → IsTooMuch label new_store stream batches refused → IsTooMuch label new_store stream others other
    → (batches ≡ others) × (refused ≡ other)
one_too_much label stream batches others refused other one first second =
    let fronts = same_front first.front second.front first.last second.last (sym first.front_is ∙ second.front_is) in
    let S : List ℕ → Type 0 = λ s. AreInGroups (ended_cuts s) second.whole second.hand in
    same_settled {label = label} (one.batches label) (one.refused label) new_store new_store first.front first.whole second.whole first.hand second.hand batches others refused other refl first.in_groups (subst S (sym fronts) second.in_groups) first.settled second.settled

-- ---- groups that find no room

-- two fronts of one list: they are one, or one goes on behind the other
abbrev Fronts : (done rest others behind : List (List Cut)) → Type 0
Fronts done rest others behind = ((done ≡ others) × (rest ≡ behind))
    ⊎ ((next : List Cut) × (more : List (List Cut)) × (later : List (List Cut)) × (others ≡ done ++ next ∷ more) × (rest ≡ next ∷ later))
    ⊎ ((next : List Cut) × (more : List (List Cut)) × (later : List (List Cut)) × (done ≡ others ++ next ∷ more) × (behind ≡ next ∷ later))

fronts : (done rest others behind : List (List Cut)) → done ++ rest ≡ others ++ behind → Fronts done rest others behind
fronts [] rest [] behind all = inl (refl, all)
fronts [] rest (next ∷ more) behind all = inr (inl (next, more, more ++ behind, refl, all))
fronts (next ∷ more) rest [] behind all = inr (inr (next, more, more ++ rest, refl, sym all))
fronts (group ∷ done) rest (other ∷ others) behind all = by_tail (fronts done rest others behind cc)
  where
    head : group ≡ other
    head = cc

    by_tail : Fronts done rest others behind → Fronts (group ∷ done) rest (other ∷ others) behind
    by_tail (inl both) = inl (ap (λ (g : List Cut). g ∷ done) head ∙ ap (λ (l : List (List Cut)). other ∷ l) both.0, both.1)
    by_tail (inr (inl longer)) =
        inr (inl (longer.0, longer.1, longer.2, ap (λ (l : List (List Cut)). other ∷ l) longer.3 ∙ ap (λ (g : List Cut). g ∷ (done ++ longer.0 ∷ longer.1)) (sym head), longer.4))
    by_tail (inr (inr longer)) =
        inr (inr (longer.0, longer.1, longer.2, ap (λ (l : List (List Cut)). group ∷ l) longer.3 ∙ ap (λ (g : List Cut). g ∷ (others ++ longer.0 ∷ longer.1)) head, longer.4))

-- a group of a list finds no room behind an open store, by so many games and bytes that are stored
abbrev pub IsFullBehind : List ℕ → Known → ℕ → ℕ → List (List Cut) → List Batch → List Refusal → Type 0
IsFullBehind label start games bytes so_far batches refused = (left : List Candidate) × EndsIn label start so_far batches refused left × FindsNoRoom (start.journal ++ batches) games bytes left

module _ (label : List ℕ) (start : Known) (is_open : start.fault ≡ None) (games bytes games' bytes' : ℕ) (so_far : List (List Cut)) (batches others : List Batch) (refused other : List Refusal) (one : OneGame) (accounts : OneAccount) where
  pub one_full_behind : IsFullBehind label start games bytes so_far batches refused → IsFullBehind label start games' bytes' so_far others other → IsSound (start.journal ++ batches) → IsSound (start.journal ++ others)
      → (games ≡ games') × (bytes ≡ bytes') × (batches ≡ others) × (refused ≡ other)
  one_full_behind (left, ends, full) (left', ends', full') sound sound' =
      by_fronts (fronts ends.done (ends.next ∷ ends.rest) ends'.done (ends'.next ∷ ends'.rest) (sym ends.so_far_is ∙ ends'.so_far_is))
    where
      by_fronts : Fronts ends.done (ends.next ∷ ends.rest) ends'.done (ends'.next ∷ ends'.rest) → (games ≡ games') × (bytes ≡ bytes') × (batches ≡ others) × (refused ≡ other)
      by_fronts (inl (done, rest)) =
          let next : ends.next ≡ ends'.next = cc in
          let A : List (List Cut) → Type 0 = λ l. Accounted label start.games l batches ends.earlier in
          let moved = subst A done ends.settled.accounted in
          let same = accounts.batches label start.games ends'.done batches others ends.earlier ends'.earlier moved ends'.settled.accounted in
          let earlier = accounts.refused label start.games ends'.done batches others ends.earlier ends'.earlier moved ends'.settled.accounted in
          let journals : start.journal ++ batches ≡ start.journal ++ others = ap (λ (l : List Batch). start.journal ++ l) same in
          let G : List Batch → Type 0 = λ j. AreGamesOf j ends.known.games in
          let H : List Batch → Type 0 = λ j. AreGamesOf j ends'.known.games in
          let games_are =
          same_games one (texts_of (start.journal ++ others)) ends.known.games ends'.known.games (subst G (ends.journal_is ∙ journals) ends.known.are_games) (subst H ends'.journal_is ends'.known.are_games) in
          let P : List Cut → Type 0 = λ g. Accounted label ends.known.games (g ∷ []) (batches_behind label ends.known.games (ends.examinations ∷ [])) (refused_behind ends.known.games (ends.examinations ∷ [])) in
          let Q : List Game → Type 0 = λ gs. Accounted label gs (ends'.next ∷ []) (batches_behind label ends.known.games (ends.examinations ∷ [])) (refused_behind ends.known.games (ends.examinations ∷ [])) in
          let here = subst Q games_are (subst P next (accounted_by label ends.known.games (ends.next ∷ []) (ends.examinations ∷ []) (ends.are_examinations, tt))) in
          let last = accounts.refused label ends'.known.games (ends'.next ∷ []) (batches_behind label ends.known.games (ends.examinations ∷ [])) (batches_behind label ends'.known.games (ends'.examinations ∷ []))
          (refused_behind ends.known.games (ends.examinations ∷ [])) (refused_behind ends'.known.games (ends'.examinations ∷ [])) here
          (accounted_by label ends'.known.games (ends'.next ∷ []) (ends'.examinations ∷ []) (ends'.are_examinations, tt)) in (
            full.games_are ∙ ap game_count journals ∙ sym full'.games_are,
            full.bytes_are ∙ ap byte_count journals ∙ sym full'.bytes_are,
            same,
            ends.refused_are
                ∙ ap₂ (λ (a : List Refusal) (b : List Refusal). a ++ b) earlier
                (lost_is label one accounts start is_open so_far batches refused left ends ∙ last ∙ sym (lost_is label one accounts start is_open so_far others other left' ends')) ∙ sym ends'.refused_are,
          )
      by_fronts (inr (inl (next, more, later, is, rest))) =
          let same : ends.next ≡ next = cc in
          let A : List (List Cut) → Type 0 = λ l. Accounted label start.games l others ends'.earlier in
          absurd (not_stored label one accounts start is_open so_far batches refused left ends games bytes full more others ends'.earlier
          (subst A (is ∙ ap (λ (g : List Cut). ends.done ++ g ∷ more) (sym same)) ends'.settled.accounted) sound'.within)
      by_fronts (inr (inr (next, more, later, is, rest))) =
          let same : ends'.next ≡ next = cc in
          let A : List (List Cut) → Type 0 = λ l. Accounted label start.games l batches ends.earlier in
          absurd (not_stored label one accounts start is_open so_far others other left' ends' games' bytes' full' more batches ends.earlier
          (subst A (is ∙ ap (λ (g : List Cut). ends'.done ++ g ∷ more) (sym same)) ends.settled.accounted) sound.within)

-- ---- answers

-- all bytes of a told stream that was read to its end
all_read : (before after : Option (List ℕ)) (stream : List ℕ) → IsSome before → Consumes before after stream → IsAtEnd after → before ≡ Some stream
all_read None after stream told reads ended = cc
all_read (Some bytes) None stream told reads ended = absurd reads
all_read (Some bytes) (Some left) stream told reads ended = ap Some (reads ∙ ap (λ (l : List ℕ). stream ++ l) ended ∙ append-nil stream)

abbrev pub OneAnswer : Type 0
OneAnswer = (journal : List Batch) (query : Query) (found other : Found) → IsFound journal query found → IsFound journal query other → found ≡ other

abbrev pub OneNaming : Type 0
OneNaming = (book : List NamedPosition) (query : Query) (played : List Move) (naming other : Naming)
    → IsNaming book query played naming → IsNaming book query played other → naming ≡ other

pub one_answer : (book : List NamedPosition) (query : Query) (before after other : World) → OneAccount → OneAnswer → OneNaming → IsSome before.input.left → (first : Answers book query before after) → (second : Answers book query before other)
    → (first.found ≡ second.found) × (first.naming ≡ second.naming) × (first.refused ≡ second.refused)
one_answer book query before after other one_account one one_naming told first second =
    let stream = first.imports.stream in
    let streams : first.imports.stream ≡ second.imports.stream =
    let both = sym (all_read before.input.left after.input.left first.imports.stream told first.imports.reads.next first.imports.stands.at_end) ∙ all_read before.input.left other.input.left second.imports.stream told second.imports.reads.next second.imports.stands.at_end in cc in
    let A : List ℕ → Type 0 = λ l. Accounted no_label [] (groups (cuts l)) first.batches first.refused in
    let moved = subst A streams first.imports.stands.settled.accounted in
    let all = groups (cuts second.imports.stream) in
    let batches = one_account.batches no_label [] all first.batches second.batches first.refused second.refused moved second.imports.stands.settled.accounted in
    let refused = one_account.refused no_label [] all first.batches second.batches first.refused second.refused moved second.imports.stands.settled.accounted in
    let found = one second.batches query first.found second.found (subst (λ (l : List Batch). IsFound l query first.found) batches first.is_found) second.is_found in
    let named : IsNamingOf book query second.found first.naming = subst (λ (f : Found). IsNamingOf book query f first.naming) found first.is_naming in
    (found, one_naming book query _ first.naming second.naming named second.is_naming, refused)

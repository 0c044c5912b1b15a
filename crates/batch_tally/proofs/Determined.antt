-- Texts have one tallying.
use Rattle.std.proofs.Common.{◌≡◌, ◌↔◌, ℕ, List, [], ◌∷◌, map, Option, Some, None, Result, Ok, refl, sym, ap, ◌∙◌, subst}
use Rattle.std.proofs.lemmas.Option.{none-some, same_Some}
use Rattle.std.specs.List.{AllZip}
use Rattle.plain_laws.specs.Lists.{cons-nil}
use Rattle.explorer_model.specs.declared.archive.Classes.{Classes}
use Rattle.explorer_model.specs.declared.archive.Game.{Game}
use Rattle.explorer_model.specs.declared.archive.Placed.{Placed}
use Rattle.explorer_model.specs.declared.chess.Position.{Position}
use Rattle.explorer_model.specs.declared.fault.GameFault.{GameFault}
use Rattle.explorer_model.specs.Chess.{Same}
use Rattle.explorer_model.specs.Games.{GameOf}
use Rattle.explorer_model.specs.Imports.{Examination, Read, Candidate, candidates, refusals, verdicts}
use Rattle.explorer_model.specs.Keys.{key}
use Rattle.explorer_model.specs.Tidy.{IsTidied, IsTidyKey}
use Rattle.explorer_model.specs.Visits.{IsTextOf, Stage, counted_stages}
use Rattle.explorer_model.proofs.Lists.{one-zip}
use Rattle.tally_rows.specs.declared.row.Row.{Row}
use Rattle.tally_rows.specs.Tallied.{Tallied}
use Rattle.tally_rows.specs.Tally.{Counted, IsStepOf, IsTallyOf, IsTrackOf}
use Rattle.tally_rows.specs.Track.{Step, Track}
use Rattle.batch_tally.specs.declared.tallying.Tallying.{Tallying}
use Rattle.batch_tally.specs.Tallying.{IsExaminationOfText, IsTallying, IsTallyMade, Counts}

-- what the lower crates say
pub record Single : Type 0 where
  pub game : (text : List ℕ) (game other : Result Game GameFault) → GameOf text game → GameOf text other → game ≡ other
  pub reflexive : (p : Position) → Same p p
  pub tidied : (p q p_tidied q_tidied : Position) → IsTidied p p_tidied → IsTidied q q_tidied → Same p q ↔ (p_tidied ≡ q_tidied)
  pub rows : (tracks : List Track) (rows others : List Row) → Tallied tracks rows → Tallied tracks others → rows ≡ others

-- ---- examinations

one-examination : Single → (text : Placed) (examination other : Examination) → IsExaminationOfText text examination → IsExaminationOfText text other → examination ≡ other
one-examination single text examination other first second =
    let game = single.game text.bytes first.0 second.0 first.1 second.1 in
    first.2 ∙ ap (λ game. Read (record { place = text.place; text = text.bytes; game = game })) game ∙ sym second.2

one-examinations : Single → (texts : List Placed) (examinations others : List Examination) → AllZip IsExaminationOfText texts examinations → AllZip IsExaminationOfText texts others → examinations ≡ others
one-examinations single texts examinations others first second = one-zip IsExaminationOfText (one-examination single) texts examinations others first second

-- ---- tracks

one-key : Single → (p : Position) (bytes others : List ℕ) → IsTidyKey p bytes → IsTidyKey p others → bytes ≡ others
one-key single p bytes others first second =
    let same = (single.tidied p p first.0 second.0 first.1 second.1).0 (single.reflexive p) in
    first.2 ∙ ap key same ∙ sym second.2

one-step : Single → (stage : Stage) (step other : Step) → IsStepOf stage step → IsStepOf stage other → step ≡ other
one-step single stage step other first second =
    let bytes = one-key single stage.position step.key other.key first.0 second.0 in
    let next = first.1 ∙ sym second.1 in
    λ i. record { key = bytes i; next = next i }

one-track : Single → (game : Game) (track other : Track) → IsTrackOf game track → IsTrackOf game other → track ≡ other
one-track single game track other first second =
    let classes = first.classes ∙ sym second.classes in
    let steps = one-zip IsStepOf (one-step single) (counted_stages game) track.steps other.steps first.steps second.steps in
    λ i. record { classes = classes i; steps = steps i }

-- ---- tallies

one-count : Single → (accepted : List Candidate) (counted other : Counted) → Counts accepted counted → Counts accepted other → counted ≡ other
one-count single accepted counted other first second =
    let batch = same_Some counted.batch other.batch (sym first.batch ∙ second.batch) in
    let classes = first.classes ∙ sym second.classes in
    let games = map (λ candidate. candidate.game) accepted in
    let tracks = one-zip IsTrackOf (one-track single) games first.tracks second.tracks first.are_tracks second.are_tracks in
    let R : List Track → Type 0 = λ tracks. Tallied tracks counted.rows in
    let rows = single.rows second.tracks counted.rows other.rows (subst R tracks first.tallied) second.tallied in
    λ i. record { batch = batch i; classes = classes i; rows = rows i }

some-candidate : (accepted : List Candidate) (counted : Counted) → Counts accepted counted → accepted ≡ [] → ⊥
some-candidate [] counted counts e = none-some counted.batch counts.batch
some-candidate (first ∷ rest) counted counts e = cons-nil first rest e

one-tally : Single → (accepted : List Candidate) (tally other : Option Counted) → IsTallyMade accepted tally → IsTallyMade accepted other → tally ≡ other
one-tally single accepted None None first second = refl
one-tally single accepted None (Some counted) first second = absurd (some-candidate accepted counted second first)
one-tally single accepted (Some counted) None first second = absurd (some-candidate accepted counted first second)
one-tally single accepted (Some counted) (Some other) first second = ap Some (one-count single accepted counted other first second)

-- ---- tallyings

pub same-examinations : Single → (texts : List Placed) (tallying other : Tallying) (first : IsTallying texts tallying) (second : IsTallying texts other) → first.examinations ≡ second.examinations
same-examinations single texts tallying other first second = one-examinations single texts first.examinations second.examinations first.are_examinations second.are_examinations

pub same-places : Single → (texts : List Placed) (tallying other : Tallying) → IsTallying texts tallying → IsTallying texts other → tallying.places.items ≡ other.places.items
same-places single texts tallying other first second =
    first.places ∙ ap (λ examinations. map (λ candidate. candidate.place) (candidates (verdicts examinations))) (same-examinations single texts tallying other first second) ∙ sym second.places

pub same-refused : Single → (texts : List Placed) (tallying other : Tallying) → IsTallying texts tallying → IsTallying texts other → tallying.refused.items ≡ other.refused.items
same-refused single texts tallying other first second =
    first.refused ∙ ap (λ examinations. refusals (verdicts examinations)) (same-examinations single texts tallying other first second) ∙ sym second.refused

pub same-tally : Single → (texts : List Placed) (tallying other : Tallying) → IsTallying texts tallying → IsTallying texts other → tallying.tally ≡ other.tally
same-tally single texts tallying other first second =
    let R : List Examination → Type 0 = λ examinations. IsTallyMade (candidates (verdicts examinations)) tallying.tally in
    one-tally single (candidates (verdicts second.examinations)) tallying.tally other.tally
    (subst R (same-examinations single texts tallying other first second) first.tally) second.tally

-- ---- texts

read_as : Game → Result Game GameFault
read_as game = Ok game

same_ok : (game other : Game) → read_as game ≡ read_as other → game ≡ other
unfolding read_as
same_ok game other e = cc

one-text : Single → (text : List ℕ) (game other : Game) → IsTextOf text game → IsTextOf text other → game ≡ other
unfolding read_as
one-text single text game other first second = same_ok game other (single.game text (read_as game) (read_as other) first second)

module _ (single : Single) (texts : List (List ℕ)) (classes others : List Classes) (rows other_rows : List Row)
    (first : IsTallyOf texts classes rows) (second : IsTallyOf texts others other_rows) where
  one-games : first.games ≡ second.games
  one-games = one-zip IsTextOf (one-text single) texts first.games second.games first.are_games second.are_games

  pub same-classes : classes ≡ others
  same-classes = first.classes_are ∙ ap (map (λ game. game.classes)) one-games ∙ sym second.classes_are

  pub same-rows : rows ≡ other_rows
  same-rows =
      let G : List Game → Type 0 = λ games. AllZip IsTrackOf games first.tracks in
      let are_tracks = subst G one-games first.are_tracks in
      let tracks = one-zip IsTrackOf (one-track single) second.games first.tracks second.tracks are_tracks second.are_tracks in
      let R : List Track → Type 0 = λ tracks. Tallied tracks rows in
      single.rows second.tracks rows other_rows (subst R tracks first.tallied) second.tallied

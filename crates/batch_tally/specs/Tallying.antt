-- Statement: what tallying answers for a list of texts.
use Rattle.std.specs.Prelude.{◌≡◌, List, [], map, Option, Some, None}
use Rattle.std.specs.List.{AllZip}
use Rattle.explorer_model.specs.declared.archive.Placed.{Placed}
use Rattle.explorer_model.specs.Cuts.{Text}
use Rattle.explorer_model.specs.Labels.{no_label}
use Rattle.explorer_model.specs.Imports.{Examination, IsExaminationOf, Candidate, verdicts, candidates, refusals, batch_of}
use Rattle.tally_rows.specs.Tally.{Counted, IsTrackOf}
use Rattle.tally_rows.specs.Tallied.{Tallied}
use Rattle.tally_rows.specs.Track.{Track}
use Rattle.batch_tally.specs.declared.tallying.Tallying.{Tallying}

abbrev pub IsExaminationOfText : Placed → Examination → Type 0
IsExaminationOfText text examination = IsExaminationOf (Text text) examination

-- the tally counts the candidates
pub record Counts (candidates : List Candidate) (counted : Counted) : Type 0 where
  pub batch : batch_of no_label candidates ≡ Some counted.batch
  pub classes : counted.classes ≡ map (λ candidate. candidate.game.classes) candidates
  pub tracks : List Track
  pub are_tracks : AllZip IsTrackOf (map (λ candidate. candidate.game) candidates) tracks
  pub tallied : Tallied tracks counted.rows

-- the tally of the candidates; there is none exactly where there is no candidate
abbrev pub IsTallyMade : List Candidate → Option Counted → Type 0
IsTallyMade candidates None = candidates ≡ []
IsTallyMade candidates (Some counted) = Counts candidates counted

-- The texts that have a game are accepted, but for those whose id an accepted text before them has;
-- they are one batch, which is counted. The others are refused, each with its cause. Of how many
-- workers there are, nothing depends.
pub record IsTallying (texts : List Placed) (tallying : Tallying) : Type 0 where
  pub examinations : List Examination
  pub are_examinations : AllZip IsExaminationOfText texts examinations
  pub places : tallying.places.items
      ≡ map (λ candidate. candidate.place) (candidates (verdicts examinations))
  pub refused : tallying.refused.items ≡ refusals (verdicts examinations)
  pub tally : IsTallyMade (candidates (verdicts examinations)) tallying.tally

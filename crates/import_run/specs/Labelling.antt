-- Bridge: what is tallied of candidates for a batch under a label.
use Rattle.std.specs.Prelude.{◌≡◌, ℕ, List, [], Option, None, Some}
use Rattle.explorer_model.specs.Labels.{no_label}
use Rattle.explorer_model.specs.Imports.{Candidate, batch_of}
use Rattle.tally_rows.specs.Tally.{Counted}
use Rattle.batch_tally.specs.Tallying.{Counts}

-- the same tally under this label
abbrev pub under : List ℕ → Counted → Counted
under label counted = record counted { batch = record counted.batch { label = label } }

-- the tally has the batch of the candidates under the label, and counts them
pub record CountsUnder (label : List ℕ) (candidates : List Candidate) (counted : Counted)
    : Type 0 where
  pub batch : batch_of label candidates ≡ Some counted.batch
  pub counts : Counts candidates (under no_label counted)

-- the tally of the candidates; there is none exactly where there is no candidate
abbrev pub IsTallyUnder : List ℕ → List Candidate → Option Counted → Type 0
IsTallyUnder label candidates None = candidates ≡ []
IsTallyUnder label candidates (Some counted) = CountsUnder label candidates counted

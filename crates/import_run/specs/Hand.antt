-- Bridge: a tally in hand, and the candidates that it counts.
use Rattle.std.specs.Prelude.{◌≡◌, ℕ, List, [], map}
use Rattle.explorer_model.specs.Imports.{Candidate}
use Rattle.tally_rows.specs.Tally.{Counted}
use Rattle.import_run.specs.Labelling.{CountsUnder}
use Rattle.import_run.specs.Settling.{AreRead, Fresh}

-- the tally counts candidates, which have these places and games, and different ids
pub record InHand (counted : Counted) (places : List ℕ) : Type 0 where
  pub candidates : List Candidate
  pub counts : CountsUnder counted.batch.label candidates counted
  pub places_are : places ≡ map (λ c. c.place) candidates
  pub read : AreRead candidates
  pub fresh : Fresh [] candidates

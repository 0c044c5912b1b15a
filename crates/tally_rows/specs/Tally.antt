-- Statement: what is counted of a batch: the tracks of its games, and the rows that are tallied for
-- them.
use Rattle.std.specs.Prelude.{◌≡◌, ℕ, List, map}
use Rattle.std.specs.List.{AllZip}
use Rattle.explorer_model.specs.declared.archive.Batch.{Batch}
use Rattle.explorer_model.specs.declared.archive.Classes.{Classes}
use Rattle.explorer_model.specs.declared.archive.Game.{Game}
use Rattle.explorer_model.specs.Journal.{IsBatch, HaveDifferentIds}
use Rattle.explorer_model.specs.Tidy.{IsTidyKey}
use Rattle.explorer_model.specs.Visits.{IsTextOf, Stage, counted_stages}
use Rattle.tally_rows.specs.declared.row.Row.{Row}
use Rattle.tally_rows.specs.Tallied.{Tallied}
use Rattle.tally_rows.specs.Track.{Step, Track}

-- the step of a game at one of its plies: the key that games are counted under there, and the move that follows
abbrev pub IsStepOf : Stage → Step → Type 0
IsStepOf stage step = IsTidyKey stage.position step.key × (step.next ≡ stage.next)

-- the track of a game: its positions at plies 0 to 50
pub record IsTrackOf (game : Game) (track : Track) : Type 0 where
  pub classes : track.classes ≡ game.classes
  pub steps : AllZip IsStepOf (counted_stages game) track.steps

-- what the games of the texts are, and the rows that count them
pub record IsTallyOf (texts : List (List ℕ)) (classes : List Classes)
    (rows : List Row) : Type 0 where
  pub games : List Game
  pub are_games : AllZip IsTextOf texts games
  pub classes_are : classes ≡ map (λ game. game.classes) games
  pub tracks : List Track
  pub are_tracks : AllZip IsTrackOf games tracks
  pub tallied : Tallied tracks rows

-- a batch, with what its tags say of its games, and the rows that count them
pub record Counted : Type 0 where
  pub batch : Batch
  pub classes : List Classes
  pub rows : List Row

pub record IsCounted (counted : Counted) : Type 0 where
  pub batch : IsBatch counted.batch
  pub different : HaveDifferentIds counted.classes
  pub tally : IsTallyOf counted.batch.texts counted.classes counted.rows

-- Bridge: the steps of a game, made one after another.
use Rattle.std.specs.Prelude.{ℕ, ◌-◌, List, ◌++◌, take, drop}
use Rattle.std.specs.List.{AllZip}
use Rattle.explorer_model.specs.declared.chess.Move.{Move}
use Rattle.explorer_model.specs.declared.chess.Position.{Position}
use Rattle.explorer_model.specs.Visits.{AreLegalFrom, Stage, stages, stage_limit}
use Rattle.tally_rows.specs.Track as tracks
use Rattle.tally_rows.specs.Tally.{IsStepOf}
use Rattle.batch_tally.specs.declared.step.Step.{Step}

abbrev pub step_as : Step → tracks.Step
step_as step = record { key = step.key; next = step.next }

abbrev pub IsStepAt : Stage → Step → Type 0
IsStepAt stage step = IsStepOf stage (step_as step)

-- the first so many stages of the moves
abbrev pub stages_within : ℕ → Position → List Move → List Stage
stages_within most p moves = take most (stages p moves)

-- the first ply stages are made: what the rest gives from the board completes the steps
pub record Stepping (root : Position) (moves : List Move) (board : Position) (steps : List Step)
    (ply : ℕ) : Type 0 where
  pub legal : AreLegalFrom board (drop ply moves)
  pub completes : (rest : List Step)
      → AllZip IsStepAt (stages_within (stage_limit - ply) board (drop ply moves)) rest
      → AllZip IsStepAt (stages_within stage_limit root moves) (steps ++ rest)

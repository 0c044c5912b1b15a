-- Bridge: what a cutter has still to give, and what it holds.
use Rattle.std.specs.Prelude.{◌≡◌, ℕ, ◌+◌, ◌<◌, ◌≤◌, List, ◌++◌, Option, IsSome, IsNone, length, take}
use Rattle.explorer_model.specs.Cuts as model
use Rattle.pgn_cut.specs.Cut.{cuts_in}
use Rattle.pgn_cut.specs.Text.{at_start, cuts_of_text, kept_limit}
use Rattle.pgn_cut.specs.Front.{cuts_of_front}
use Rattle.pgn_cut.specs.Mark.{cuts_of_mark}
use Rattle.pgn_cut.specs.declared.cut.Cut.{Cut}
use Rattle.pgn_cut.specs.declared.cut.Fed.{Fed}
use Rattle.pgn_cut.specs.declared.front.Front.{Front}
use Rattle.pgn_cut.specs.declared.cutter.Cutter.{Cutter}
use Rattle.pgn_cut.specs.declared.cutter.Stage.{Stage}
use Rattle.pgn_cut.specs.declared.cutter.Stage.TheVariants.{Mark, Before, Within}

-- the cuts that are still to come where the rest of the stream is this
abbrev pub cuts_from_stage : Stage → List ℕ → List model.Cut
cuts_from_stage (Mark prefix) rest = cuts_of_mark prefix.count rest
cuts_from_stage (Before front) rest = cuts_of_front front rest
cuts_from_stage (Within text) rest = cuts_of_text text rest

abbrev pub cuts_of_rest : Cutter → List ℕ → List model.Cut
cuts_of_rest cutter rest = cuts_from_stage cutter.stage rest

-- The cutter takes the bytes, gives a cut or none, and goes on as the other: however the stream goes on, its cuts are
-- those that the definition gives.
abbrev pub Gives : Cutter → List ℕ → Option Cut → Cutter → Type 0
Gives before taken cut after =
    (rest : List ℕ) → cuts_in cut ++ cuts_of_rest after rest ≡ cuts_of_rest before (taken ++ rest)

-- how many bytes of the stream came
abbrev pub came_by : Stage → ℕ
came_by (Mark prefix) = prefix.count
came_by (Before front) = front.came
came_by (Within text) = text.place + text.count

abbrev pub came : Cutter → ℕ
came cutter = came_by cutter.stage

-- how many bytes are held
abbrev pub held_in : Stage → ℕ
held_in (Mark prefix) = 0
held_in (Before front) = 0
held_in (Within text) = length text.kept

abbrev pub held : Cutter → ℕ
held cutter = held_in cutter.stage

-- the seven bytes of a start came last, and nothing of the text behind them
abbrev pub StandsAtStart : Stage → Type 0
StandsAtStart (Mark prefix) = ⊥
StandsAtStart (Before front) = ⊥
StandsAtStart (Within text) = text ≡ at_start text.place

abbrev pub IsAtStart : Cutter → Type 0
IsAtStart cutter = StandsAtStart cutter.stage

-- what is done with a piece before the first text
pub record FeedsFront (front : Front) (piece : List ℕ) (next : Stage × Fed) : Type 0 where
  pub cuts : (rest : List ℕ) → cuts_in next.1.cut ++ cuts_from_stage next.0 rest
      ≡ cuts_of_front front (take next.1.taken piece ++ rest)
  pub some : 0 < length piece → 0 < next.1.taken
  pub taken : next.1.taken ≤ length piece
  pub whole : IsNone next.1.cut → next.1.taken ≡ length piece
  pub stops : IsSome next.1.cut → StandsAtStart next.0
  pub came : came_by next.0 ≡ front.came + next.1.taken
  pub held : held_in next.0 ≤ kept_limit

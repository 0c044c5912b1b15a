-- Bridge: what the code draws of a sample game: its movetext, and its header.
use Rattle.std.specs.Prelude.{ℕ, ◌-◌, ◌*◌, ◌≤◌, List, ◌++◌, length}
use Rattle.explorer_model.specs.declared.chess.Move.{Move}
use Rattle.explorer_model.specs.declared.chess.Position.{Position}
use Rattle.explorer_model.specs.Chess.{start}
use Rattle.rand_pcg.specs.Lcg.{Lcg}
use Rattle.sample_games.specs.declared.header.Header as drawn
use Rattle.sample_games.specs.Samples.{Header, DrawsMoves, WritesMoves}

-- the text is that of moves that are drawn from the position on
abbrev pub IsMovetext : ℕ → Position → ℕ → Lcg → List ℕ → Lcg → Type 0
IsMovetext plies p ply before text behind =
    (moves : List Move) × DrawsMoves plies p before moves behind × WritesMoves p ply moves text

-- The plies before this one are drawn: what is drawn from the board on completes what is drawn
-- from the start.
pub record Drawing (plies : ℕ) (before : Lcg) (ply : ℕ) (board : Position) (draws : Lcg)
    (text : List ℕ) : Type 0 where
  pub within : ply ≤ plies
  pub short : length text ≤ 13 * ply
  pub completes : (rest : List ℕ) (behind : Lcg)
      → IsMovetext (plies - ply) board ply draws rest behind
      → IsMovetext plies start 0 before (text ++ rest) behind

-- the header as the code has it
abbrev pub header : drawn.Header → Header
header drawn = record {
  result = drawn.result.now;
  white_rating = drawn.white_rating;
  black_rating = drawn.black_rating;
  month = drawn.month;
  time_control = drawn.time_control.now;
}

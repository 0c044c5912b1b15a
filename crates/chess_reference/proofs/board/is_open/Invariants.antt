use Rattle.std.proofs.Common.{ℕ, ◌<◌}
use Rattle.explorer_model.specs.Board.{piece_at, IsEmpty, IsBetween}
use Rattle.chess_reference.proofs.board.is_open.Given as goal

abbrev pub invariant-loop-s : goal.invariant-loop-s
invariant-loop-s l = (k : ℕ) → k < l.s → IsBetween l.a k l.b → IsEmpty (piece_at l.squares k)

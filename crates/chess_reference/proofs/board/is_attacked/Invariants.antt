use Rattle.std.proofs.Common.{ℕ, ◌<◌}
use Rattle.explorer_model.specs.Board.{piece_at, IsOfColor, Attacks}
use Rattle.chess_reference.proofs.board.is_attacked.Given as goal

abbrev pub invariant-loop-a : goal.invariant-loop-a
invariant-loop-a l = (k : ℕ) → k < l.a → IsOfColor l.color (piece_at l.squares k) → ¬ Attacks l.squares k l.s

use Rattle.std.proofs.Common.{ℕ, ◌<◌}
use Rattle.explorer_model.specs.Board.{piece_at, opponent, IsPiece, IsAttacked}
use Rattle.explorer_model.specs.declared.chess.Role.TheVariants.{King}
use Rattle.chess_reference.proofs.board.in_check.Given as goal

abbrev pub invariant-loop-k : goal.invariant-loop-k
invariant-loop-k l = (j : ℕ) → j < l.k → IsPiece l.color King (piece_at l.squares j) → ¬ IsAttacked l.squares (opponent l.color) j

use Rattle.std.proofs.Common.{◌≡◌, ℕ, ◌<◌}
use Rattle.explorer_model.specs.Board.{piece_at}
use Rattle.chess_reference.proofs.legal.are_squares_equal.Given as goal

abbrev pub invariant-loop-s : goal.invariant-loop-s
invariant-loop-s l = (k : ℕ) → k < l.s → piece_at l.p k ≡ piece_at l.q k

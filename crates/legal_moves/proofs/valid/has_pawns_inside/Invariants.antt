use Rattle.std.proofs.Common.{ℕ, ◌<◌, ◌≢◌}
use Rattle.explorer_model.specs.Board.{piece_at, rank_of}
use Rattle.explorer_model.specs.Chess.{IsPawn}
use Rattle.legal_moves.proofs.valid.has_pawns_inside.Given as goal

abbrev pub invariant-loop-s : goal.invariant-loop-s
invariant-loop-s l = (k : ℕ) → k < l.s → IsPawn (piece_at l.squares k) → (rank_of k ≢ 0) × (rank_of k ≢ 7)

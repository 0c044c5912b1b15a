use Rattle.std.proofs.Common.{◌≡◌, ℕ, ◌<◌, length}
use Rattle.explorer_model.specs.Board.{piece_at}
use Rattle.explorer_model.specs.Chess.{placed}
use Rattle.chess_reference.proofs.play.squares_after.Given as goal

abbrev pub invariant-loop-s : goal.invariant-loop-s
invariant-loop-s l = record {
  size : length l.squares ≡ 64;
  filled : (k : ℕ) → k < l.s → piece_at l.squares k ≡ placed l.position l.m k;
}

use Rattle.std.proofs.Common.{IsTrue}
use Rattle.explorer_model.specs.Board.{piece_at}
use Rattle.explorer_model.specs.Chess.{is_of_color}
use Rattle.legal_moves.proofs.BitboardFacts.{IsBuilt}
use Rattle.legal_moves.proofs.piece_sets.squares_of_color.Given as goal

abbrev pub invariant-loop-s : goal.invariant-loop-s
invariant-loop-s l = IsBuilt (λ b. IsTrue (is_of_color l.color (piece_at l.squares b))) l.s l.bitboard

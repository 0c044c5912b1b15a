use Rattle.std.proofs.Common.{IsTrue}
use Rattle.explorer_model.specs.Board.{piece_at}
use Rattle.legal_moves.specs.PieceSets.{is_of}
use Rattle.legal_moves.proofs.BitboardFacts.{IsBuilt}
use Rattle.legal_moves.proofs.piece_sets.squares_of_role.Given as goal

abbrev pub invariant-loop-s : goal.invariant-loop-s
invariant-loop-s l = IsBuilt (λ b. IsTrue (is_of l.role (piece_at l.squares b))) l.s l.bitboard

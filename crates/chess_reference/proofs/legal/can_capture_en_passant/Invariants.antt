use Rattle.std.proofs.Common.{◌<◌}
use Rattle.explorer_model.specs.declared.square.Square.{Square}
use Rattle.explorer_model.specs.declared.chess.Role.TheVariants.{Pawn}
use Rattle.explorer_model.specs.Board.{piece_at, IsPiece}
use Rattle.explorer_model.specs.Chess.{Legal, quiet}
use Rattle.chess_reference.proofs.legal.can_capture_en_passant.Given as goal

abbrev pub invariant-loop-index : goal.invariant-loop-index
invariant-loop-index l =
    (from : Square) → from.index < l.index
    → ¬ (IsPiece l.position.turn Pawn (piece_at l.position.squares from.index) × Legal l.position (quiet from l.to))

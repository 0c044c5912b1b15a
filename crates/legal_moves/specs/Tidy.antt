-- Statement: the tidy form of a position.
use Rattle.std.specs.Prelude.{Option}
use Rattle.explorer_model.specs.declared.chess.Position.{Position}
use Rattle.explorer_model.specs.declared.square.Square.{Square}
pub use Rattle.explorer_model.specs.Tidy.{IsTidied}

-- the position with another en passant square, or none
abbrev pub with_en_passant : Position → Option Square → Position
with_en_passant p en_passant =
    record { squares = p.squares; turn = p.turn; rights = p.rights; en_passant = en_passant }

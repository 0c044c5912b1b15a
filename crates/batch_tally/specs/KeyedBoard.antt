-- Bridge: the squares once a piece leaves one and arrives on another.
use Rattle.std.specs.Prelude.{ℕ, List, Option, None, slice_set}
use Rattle.explorer_model.specs.declared.chess.Piece.{Piece}

abbrev pub moved : List (Option Piece) → ℕ → ℕ → Option Piece → List (Option Piece)
moved squares from to occupant = slice_set (slice_set squares from None) to occupant

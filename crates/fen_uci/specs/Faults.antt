-- Bridge: the rule that a faulty field breaks, field by field.
use Rattle.std.specs.Prelude.{◌≡◌, ℕ, zero, suc, false, List, Option, Some, None}
use Rattle.explorer_model.specs.declared.chess.Color.{Color}
use Rattle.explorer_model.specs.declared.chess.Piece.{Piece}
use Rattle.explorer_model.specs.Fen.{field, PlacesPieces, turn_named, GivesTurn, rights_named, en_passant_named, has_clock, has_number}

-- the field of this number breaks its rule, where the fields before it keep theirs
abbrev pub IsFaulty : List ℕ → ℕ → Type 0
IsFaulty text zero = ⊥
IsFaulty text (suc zero) = (squares : List (Option Piece)) → ¬ PlacesPieces text squares
IsFaulty text (suc (suc zero)) =
    (squares : List (Option Piece)) (turn : Color) → PlacesPieces text squares
    → ¬ GivesTurn text squares turn
IsFaulty text (suc (suc (suc zero))) = rights_named (field 3 text) ≡ None
IsFaulty text (suc (suc (suc (suc zero)))) =
    (turn : Color) → turn_named (field 2 text) ≡ Some turn
    → en_passant_named turn (field 4 text) ≡ None
IsFaulty text (suc (suc (suc (suc (suc zero))))) = has_clock text ≡ false
IsFaulty text (suc (suc (suc (suc (suc (suc zero)))))) = has_number text ≡ false
IsFaulty text (suc (suc (suc (suc (suc (suc (suc number))))))) = ⊥

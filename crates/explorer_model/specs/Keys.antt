-- Statement: the key of a position: 34 bytes that name it exactly, whatever else a position is.
use Rattle.std.specs.Prelude.{◌≡◌, ℕ, ◌+◌, ◌*◌, Bool, true, false, List, [], ◌∷◌, ◌++◌, length, Option, Some, None}
use Rattle.explorer_model.specs.declared.chess.Color.{Color}
use Rattle.explorer_model.specs.declared.chess.Color.TheVariants.{White, Black}
use Rattle.explorer_model.specs.declared.chess.Role.{Role}
use Rattle.explorer_model.specs.declared.chess.Role.TheVariants.{Pawn, Knight, Bishop, Rook, Queen, King}
use Rattle.explorer_model.specs.declared.chess.Piece.{Piece}
use Rattle.explorer_model.specs.declared.chess.Rights.{Rights}
use Rattle.explorer_model.specs.declared.chess.Position.{Position}
use Rattle.explorer_model.specs.declared.square.Square.{Square}

abbrev pub role_code : Role → ℕ
role_code Pawn = 1
role_code Knight = 2
role_code Bishop = 3
role_code Rook = 4
role_code Queen = 5
role_code King = 6

abbrev pub color_code : Color → ℕ
color_code White = 0
color_code Black = 6

-- an empty square is 0, White's pieces are 1 to 6 and Black's 7 to 12
abbrev pub piece_code : Option Piece → ℕ
piece_code None = 0
piece_code (Some piece) = color_code piece.color + role_code piece.role

-- two squares to a byte, the lower one in the low four bits
abbrev pub packed : List (Option Piece) → List ℕ
packed [] = []
packed (low ∷ []) = piece_code low ∷ []
packed (low ∷ high ∷ squares) = (piece_code low + 16 * piece_code high) ∷ packed squares

abbrev pub turn_code : Color → ℕ
turn_code White = 0
turn_code Black = 1

abbrev pub bit_of : Bool → ℕ
bit_of true = 1
bit_of false = 0

-- bit 0 for Black to move, bits 1 to 4 for the rights
abbrev pub state_code : Color → Rights → ℕ
state_code turn rights =
    turn_code turn + 2 * bit_of rights.white_short + 4 * bit_of rights.white_long
    + 8 * bit_of rights.black_short + 16 * bit_of rights.black_long

-- 0, or the square's index plus 1
abbrev pub en_passant_code : Option Square → ℕ
en_passant_code None = 0
en_passant_code (Some square) = square.index + 1

abbrev pub key : Position → List ℕ
key p = packed p.squares ++ (state_code p.turn p.rights ∷ en_passant_code p.en_passant ∷ [])

-- a position of 64 squares has these bytes as its key
abbrev pub HasKey : Position → List ℕ → Type 0
HasKey p bytes = (length p.squares ≡ 64) × (key p ≡ bytes)

-- the bytes are a position's key
abbrev pub IsKey : List ℕ → Type 0
IsKey bytes = (p : Position) × HasKey p bytes

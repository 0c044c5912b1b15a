-- Statement: the geometry of the board, and what stands on its squares (FIDE Laws of Chess in force
-- from 1 January 2023, Articles 2 and 3). A square is a number below 64, `8 * rank + file`: a1 is
-- 0, h1 is 7, h8 is 63. Files and ranks count from 0: file e is 4, rank 1 is 0.
use Rattle.std.specs.Prelude.{◌≡◌, ◌≢◌, ℕ, ◌+◌, ◌-◌, ◌/◌, ◌%◌, ◌<◌, ◌≤◌, ◌⊎◌, List, slice_index_or, Option, Some, None}
use Rattle.std.proofs.Common.{lit<}
use Rattle.std.proofs.lemmas.Nat.{div_below}
use Rattle.std.proofs.Math.Nat.{add-lt-add_of_le_of_lt, le_of_lt}
use Rattle.explorer_model.specs.declared.chess.Color.{Color}
use Rattle.explorer_model.specs.declared.chess.Color.TheVariants.{White, Black}
use Rattle.explorer_model.specs.declared.chess.Role.{Role}
use Rattle.explorer_model.specs.declared.chess.Role.TheVariants.{Pawn, Knight, Bishop, Rook, Queen, King}
use Rattle.explorer_model.specs.declared.chess.Piece.{Piece}

-- Files and ranks.

abbrev pub file_of : ℕ → ℕ
file_of square = square % 8

abbrev pub rank_of : ℕ → ℕ
rank_of square = square / 8

-- how far two numbers are apart
abbrev pub gap : ℕ → ℕ → ℕ
gap x y = (x - y) + (y - x)

abbrev pub files_apart : ℕ → ℕ → ℕ
files_apart a b = gap (file_of a) (file_of b)

abbrev pub ranks_apart : ℕ → ℕ → ℕ
ranks_apart a b = gap (rank_of a) (rank_of b)

-- two squares on one file or rank (2.4)
abbrev pub RookLine : ℕ → ℕ → Type 0
RookLine a b = ((files_apart a b ≡ 0) ⊎ (ranks_apart a b ≡ 0)) × (a ≢ b)

-- two squares on one diagonal (2.4)
abbrev pub BishopLine : ℕ → ℕ → Type 0
BishopLine a b = (files_apart a b ≡ ranks_apart a b) × (a ≢ b)

-- three squares, each two of which are on one file or rank, or each two on one diagonal
abbrev pub AreAligned : ℕ → ℕ → ℕ → Type 0
AreAligned a s b =
    (RookLine a b × RookLine a s × RookLine s b)
    ⊎ (BishopLine a b × BishopLine a s × BishopLine s b)

-- s is strictly between a and b: they are aligned, and the ways from a to s and from s to b make up
-- the way from a to b
abbrev pub IsBetween : ℕ → ℕ → ℕ → Type 0
IsBetween a s b =
    AreAligned a s b
    × (files_apart a s + files_apart s b ≡ files_apart a b)
    × (ranks_apart a s + ranks_apart s b ≡ ranks_apart a b)

-- the square halfway between two squares
abbrev pub halfway : ℕ → ℕ → ℕ
halfway a b = (a + b) / 2

pub halfway_on_board : (a b : ℕ) → a < 64 → b < 64 → halfway a b < 64
halfway_on_board a b on_a on_b =
    div_below (a + b) 2 64 (lit< tt) (add-lt-add_of_le_of_lt (le_of_lt on_a) on_b)

-- What stands on a square.

abbrev pub opponent : Color → Color
opponent White = Black
opponent Black = White

-- a piece as it stands on a square
abbrev pub piece_of : Color → Role → Option Piece
piece_of color role = Some (record { color = color; role = role })

-- what stands on a square; nothing where there is no such square
abbrev pub piece_at : List (Option Piece) → ℕ → Option Piece
piece_at squares s = slice_index_or squares s None

abbrev pub IsEmpty : Option Piece → Type 0
IsEmpty o = o ≡ None

abbrev pub IsOfColor : Color → Option Piece → Type 0
IsOfColor color None = ⊥
IsOfColor color (Some piece) = piece.color ≡ color

abbrev pub IsPiece : Color → Role → Option Piece → Type 0
IsPiece color role None = ⊥
IsPiece color role (Some piece) = (piece.color ≡ color) × (piece.role ≡ role)

-- How the pieces step. A colour's pawns go forward: White's to the next higher rank, Black's to the
-- next lower one.

abbrev pub IsRankAhead : Color → ℕ → ℕ → Type 0
IsRankAhead White a b = rank_of b ≡ rank_of a + 1
IsRankAhead Black a b = rank_of a ≡ rank_of b + 1

-- one of the two squares diagonally in front (3.7.3)
abbrev pub PawnDiagonal : Color → ℕ → ℕ → Type 0
PawnDiagonal color a b = IsRankAhead color a b × (files_apart a b ≡ 1)

-- the nearest squares that are on no common rank, file or diagonal (3.6)
abbrev pub KnightStep : ℕ → ℕ → Type 0
KnightStep a b =
    ((files_apart a b ≡ 1) × (ranks_apart a b ≡ 2))
    ⊎ ((files_apart a b ≡ 2) × (ranks_apart a b ≡ 1))

-- an adjoining square (3.8.1)
abbrev pub KingStep : ℕ → ℕ → Type 0
KingStep a b = (files_apart a b ≤ 1) × (ranks_apart a b ≤ 1) × (a ≢ b)

-- no piece stands between a and b (3.5)
abbrev pub IsOpen : List (Option Piece) → ℕ → ℕ → Type 0
IsOpen squares a b = (s : ℕ) → s < 64 → IsBetween a s b → IsEmpty (piece_at squares s)

-- a piece of this colour and role on a may step to b, if a pawn then as it captures (3.2 to 3.8.1)
abbrev pub RoleAttacks : List (Option Piece) → Color → Role → ℕ → ℕ → Type 0
RoleAttacks squares color Pawn a b = PawnDiagonal color a b
RoleAttacks squares color Knight a b = KnightStep a b
RoleAttacks squares color Bishop a b = BishopLine a b × IsOpen squares a b
RoleAttacks squares color Rook a b = RookLine a b × IsOpen squares a b
RoleAttacks squares color Queen a b = (RookLine a b ⊎ BishopLine a b) × IsOpen squares a b
RoleAttacks squares color King a b = KingStep a b

-- what stands on a, seen from a, may step to b
abbrev pub PieceAttacks : List (Option Piece) → Option Piece → ℕ → ℕ → Type 0
PieceAttacks squares None a b = ⊥
PieceAttacks squares (Some piece) a b = RoleAttacks squares piece.color piece.role a b

-- the piece on a attacks b. What stands on b is not asked, nor whether the step would expose the
-- piece's own king (3.1.3)
abbrev pub Attacks : List (Option Piece) → ℕ → ℕ → Type 0
Attacks squares a b = PieceAttacks squares (piece_at squares a) a b

-- a piece of this colour attacks s
abbrev pub IsAttacked : List (Option Piece) → Color → ℕ → Type 0
IsAttacked squares color s =
    (a : ℕ) × (a < 64) × IsOfColor color (piece_at squares a) × Attacks squares a s

-- the king of this colour is attacked (3.9.1)
abbrev pub InCheck : List (Option Piece) → Color → Type 0
InCheck squares color =
    (k : ℕ) × (k < 64) × IsPiece color King (piece_at squares k)
    × IsAttacked squares (opponent color) k

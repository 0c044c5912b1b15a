-- Statement: positions, moves and what is legal (FIDE Laws of Chess in force from 1 January 2023,
-- Articles 2, 3 and 9.2.3). Squares are numbers as in Board, so `m.to.index` is the square that the
-- move m ends on.
use Rattle.std.specs.Prelude.{◌≡◌, ◌≢◌, ℕ, ◌+◌, ◌-◌, ◌*◌, ◌<◌, ◌≤◌, ◌⊎◌, ◌↔◌, Bool, true, false, not, ◌&&◌, ◌==◌, if◌then◌else◌, IsTrue, List, [], ◌∷◌, ◌++◌, length, map, replicate, count_by, Option, Some, None}
use Rattle.std.specs.List.{range_with_len}
use Rattle.explorer_model.specs.declared.chess.Color.{Color}
use Rattle.explorer_model.specs.declared.chess.Color.TheVariants.{White, Black}
use Rattle.explorer_model.specs.declared.chess.Role.{Role}
use Rattle.explorer_model.specs.declared.chess.Role.TheVariants.{Pawn, Knight, Bishop, Rook, Queen, King}
use Rattle.explorer_model.specs.declared.chess.Side.{Side}
use Rattle.explorer_model.specs.declared.chess.Side.TheVariants.{Short, Long}
use Rattle.explorer_model.specs.declared.chess.Piece.{Piece}
use Rattle.explorer_model.specs.declared.chess.Rights.{Rights}
use Rattle.explorer_model.specs.declared.chess.Position.{Position}
use Rattle.explorer_model.specs.declared.chess.Move.{Move}
use Rattle.explorer_model.specs.declared.square.Square.{Square}
use Rattle.explorer_model.specs.Board.{file_of, rank_of, files_apart, ranks_apart, halfway, halfway_on_board, opponent, piece_of, piece_at, IsEmpty, IsOfColor, IsPiece, IsRankAhead, PawnDiagonal, IsOpen, Attacks, IsAttacked, InCheck}

-- The first squares (2.3), and the ranks that count for pawns.

-- the rank of a colour's king and rooks
abbrev pub home_rank : Color → ℕ
home_rank White = 0
home_rank Black = 7

-- the rank of a colour's pawns
abbrev pub pawn_rank : Color → ℕ
pawn_rank White = 1
pawn_rank Black = 6

-- the rank on which a colour's pawns are promoted
abbrev pub last_rank : Color → ℕ
last_rank White = 7
last_rank Black = 0

-- file e
abbrev pub king_home : Color → ℕ
king_home color = 8 * home_rank color + 4

-- file h or file a
abbrev pub rook_home : Color → Side → ℕ
rook_home color Short = 8 * home_rank color + 7
rook_home color Long = 8 * home_rank color

-- where castling takes the king: two squares toward the rook, to file g or file c (3.8.2)
abbrev pub king_target : Color → Side → ℕ
king_target color Short = 8 * home_rank color + 6
king_target color Long = 8 * home_rank color + 2

abbrev pub has_right : Rights → Color → Side → Bool
has_right rights White Short = rights.white_short
has_right rights White Long = rights.white_long
has_right rights Black Short = rights.black_short
has_right rights Black Long = rights.black_long

-- The starting position (2.3).

abbrev pub back_rank : Color → List (Option Piece)
back_rank color =
    piece_of color Rook ∷ piece_of color Knight ∷ piece_of color Bishop ∷ piece_of color Queen
    ∷ piece_of color King ∷ piece_of color Bishop ∷ piece_of color Knight ∷ piece_of color Rook ∷ []

abbrev pub start_squares : List (Option Piece)
start_squares =
    back_rank White ++ replicate 8 (piece_of White Pawn)
    ++ replicate 32 None
    ++ replicate 8 (piece_of Black Pawn) ++ back_rank Black

abbrev pub all_rights : Rights
all_rights = record { white_short = true; white_long = true; black_short = true; black_long = true }

abbrev pub start : Position
start = record { squares = start_squares; turn = White; rights = all_rights; en_passant = None }

-- The valid positions.

abbrev pub is_color : Color → Color → Bool
is_color White White = true
is_color White Black = false
is_color Black White = false
is_color Black Black = true

abbrev pub is_king : Role → Bool
is_king King = true
is_king _ = false

abbrev pub is_pawn : Role → Bool
is_pawn Pawn = true
is_pawn _ = false

abbrev pub is_of_color : Color → Option Piece → Bool
is_of_color color None = false
is_of_color color (Some piece) = is_color piece.color color

abbrev pub is_king_of : Color → Option Piece → Bool
is_king_of color None = false
is_king_of color (Some piece) = is_color piece.color color && is_king piece.role

-- one king, and at most 16 pieces with it
abbrev pub HasPieces : List (Option Piece) → Color → Type 0
HasPieces squares color =
    (count_by (is_king_of color) squares ≡ 1) × (count_by (is_of_color color) squares ≤ 16)

abbrev pub IsPawn : Option Piece → Type 0
IsPawn None = ⊥
IsPawn (Some piece) = piece.role ≡ Pawn

-- no pawn on rank 1 or 8: a pawn never goes back, and on its last rank it is replaced (3.7)
abbrev pub HasPawnsInside : List (Option Piece) → Type 0
HasPawnsInside squares =
    (s : ℕ) → s < 64 → IsPawn (piece_at squares s) → (rank_of s ≢ 0) × (rank_of s ≢ 7)

-- where there is this right, its king and its rook are on their first squares (3.8.2.1)
abbrev pub RightStands : Position → Color → Side → Type 0
RightStands p color side =
    IsTrue (has_right p.rights color side)
    → IsPiece color King (piece_at p.squares (king_home color))
    × IsPiece color Rook (piece_at p.squares (rook_home color side))

abbrev pub RightsStand : Position → Type 0
RightsStand p = (color : Color) (side : Side) → RightStands p color side

-- A pawn of the side that is not to move has just crossed this square: the square is empty, so is
-- the one that the pawn came from, and the pawn stands on the next one (3.7.2).
abbrev pub HasCrossed : List (Option Piece) → Color → ℕ → Type 0
HasCrossed squares White s =
    (rank_of s ≡ 5) × IsEmpty (piece_at squares s) × IsEmpty (piece_at squares (s + 8))
    × IsPiece Black Pawn (piece_at squares (s - 8))
HasCrossed squares Black s =
    (rank_of s ≡ 2) × IsEmpty (piece_at squares s) × IsEmpty (piece_at squares (s - 8))
    × IsPiece White Pawn (piece_at squares (s + 8))

-- s is the en passant square
abbrev pub IsSquare : Option Square → ℕ → Type 0
IsSquare None s = ⊥
IsSquare (Some square) s = square.index ≡ s

abbrev pub EnPassantStands : Position → Type 0
EnPassantStands p = (s : ℕ) → IsSquare p.en_passant s → HasCrossed p.squares p.turn s

pub record IsValid (p : Position) : Type 0 where
  pub board : length p.squares ≡ 64
  pub white : HasPieces p.squares White
  pub black : HasPieces p.squares Black
  pub pawns : HasPawnsInside p.squares
  -- the side that is not to move is not in check: it would have left its king attacked (3.9.2)
  pub not_in_check : ¬ InCheck p.squares (opponent p.turn)
  pub rights : RightsStand p
  pub en_passant : EnPassantStands p

-- How the pieces move, before it is asked whether that leaves the own king attacked.

-- what a pawn may become (3.7)
abbrev pub IsPromotion : Option Role → Type 0
IsPromotion None = ⊥
IsPromotion (Some Pawn) = ⊥
IsPromotion (Some Knight) = Unit {0}
IsPromotion (Some Bishop) = Unit {0}
IsPromotion (Some Rook) = Unit {0}
IsPromotion (Some Queen) = Unit {0}
IsPromotion (Some King) = ⊥

-- a pawn's move names what it becomes exactly where it reaches its last rank
abbrev pub Promotes : Color → Move → Type 0
Promotes color m =
    ((rank_of m.to.index ≡ last_rank color) × IsPromotion m.promotion)
    ⊎ ((rank_of m.to.index ≢ last_rank color) × (m.promotion ≡ None))

-- one square forward onto an empty square (3.7.1)
abbrev pub PawnSteps : Position → Move → Type 0
PawnSteps p m =
    (file_of m.from.index ≡ file_of m.to.index)
    × IsRankAhead p.turn m.from.index m.to.index
    × IsEmpty (piece_at p.squares m.to.index)

-- two squares forward from the first rank over an empty square onto an empty one (3.7.2)
abbrev pub PawnDoubleSteps : Position → Move → Type 0
PawnDoubleSteps p m =
    (rank_of m.from.index ≡ pawn_rank p.turn)
    × (file_of m.from.index ≡ file_of m.to.index)
    × (ranks_apart m.from.index m.to.index ≡ 2)
    × IsEmpty (piece_at p.squares (halfway m.from.index m.to.index))
    × IsEmpty (piece_at p.squares m.to.index)

-- diagonally forward onto an enemy piece or the en passant square (3.7.3)
abbrev pub PawnCaptures : Position → Move → Type 0
PawnCaptures p m =
    PawnDiagonal p.turn m.from.index m.to.index
    × (IsOfColor (opponent p.turn) (piece_at p.squares m.to.index)
    ⊎ IsSquare p.en_passant m.to.index)

-- the king goes two squares toward a rook, from its first square, with that right, and nothing
-- stands between the two (3.8.2)
abbrev pub CastlesTo : Side → Position → Move → Type 0
CastlesTo side p m =
    IsTrue (has_right p.rights p.turn side)
    × (m.from.index ≡ king_home p.turn)
    × (m.to.index ≡ king_target p.turn side)
    × IsPiece p.turn King (piece_at p.squares m.from.index)
    × IsOpen p.squares (king_home p.turn) (rook_home p.turn side)

abbrev pub Castles : Position → Move → Type 0
Castles p m = CastlesTo Short p m ⊎ CastlesTo Long p m

-- how a piece of this role may make the move m
abbrev pub RoleMoves : Position → Role → Move → Type 0
RoleMoves p Pawn m = (PawnSteps p m ⊎ PawnDoubleSteps p m ⊎ PawnCaptures p m) × Promotes p.turn m
RoleMoves p King m =
    (Attacks p.squares m.from.index m.to.index ⊎ Castles p m) × (m.promotion ≡ None)
RoleMoves p _ m = Attacks p.squares m.from.index m.to.index × (m.promotion ≡ None)

abbrev pub PieceMoves : Position → Option Piece → Move → Type 0
PieceMoves p None m = ⊥
PieceMoves p (Some piece) m = RoleMoves p piece.role m

-- A piece of the side to move goes to a square where none of that side stands (3.1).
abbrev pub PseudoLegal : Position → Move → Type 0
PseudoLegal p m =
    IsOfColor p.turn (piece_at p.squares m.from.index)
    × (¬ IsOfColor p.turn (piece_at p.squares m.to.index))
    × PieceMoves p (piece_at p.squares m.from.index) m

-- What a move leaves.

abbrev pub is_pawn_at : Option Piece → Bool
is_pawn_at None = false
is_pawn_at (Some piece) = is_pawn piece.role

abbrev pub is_king_at : Option Piece → Bool
is_king_at None = false
is_king_at (Some piece) = is_king piece.role

abbrev pub is_square : Option Square → ℕ → Bool
is_square None s = false
is_square (Some square) s = square.index == s

-- a pawn goes to the en passant square. (No pawn gets there straight ahead: the pawn that crossed
-- it stands before it.)
abbrev pub takes_en_passant : Position → Move → Bool
takes_en_passant p m =
    is_pawn_at (piece_at p.squares m.from.index) && is_square p.en_passant m.to.index

-- where the pawn stands that is taken en passant: beside the capturing pawn, on the file that this
-- one goes to
abbrev pub captured_en_passant : Move → ℕ
captured_en_passant m = 8 * rank_of m.from.index + file_of m.to.index

abbrev pub is_taken_en_passant : Position → Move → ℕ → Bool
is_taken_en_passant p m s = takes_en_passant p m && (s == captured_en_passant m)

-- the king goes two squares
abbrev pub is_castling : Position → Move → Bool
is_castling p m =
    is_king_at (piece_at p.squares m.from.index) && (files_apart m.from.index m.to.index == 2)

-- the side toward which a castling king goes
abbrev pub castling_side : Move → Side
castling_side m = if file_of m.to.index == 6 then Short else Long

-- the castling rook comes from here
abbrev pub rook_leaves : Position → Move → ℕ → Bool
rook_leaves p m s = is_castling p m && (s == rook_home p.turn (castling_side m))

-- the castling rook goes here, to the square that the king crosses
abbrev pub rook_arrives : Position → Move → ℕ → Bool
rook_arrives p m s = is_castling p m && (s == halfway m.from.index m.to.index)

-- a pawn goes two squares
abbrev pub is_double_step : Position → Move → Bool
is_double_step p m =
    is_pawn_at (piece_at p.squares m.from.index) && (ranks_apart m.from.index m.to.index == 2)

-- the piece that arrives: the one that moves, or the piece that the pawn becomes
abbrev pub arriving : Option Piece → Option Role → Option Piece
arriving None role = None
arriving (Some piece) None = Some piece
arriving (Some piece) (Some role) = piece_of piece.color role

-- what stands on s after the move
unfoldable pub placed : Position → Move → ℕ → Option Piece
placed p m s =
    if s == m.to.index then arriving (piece_at p.squares m.from.index) m.promotion
    else if s == m.from.index then None
    else if is_taken_en_passant p m s then None
    else if rook_leaves p m s then None
    else if rook_arrives p m s then piece_of p.turn Rook
    else piece_at p.squares s

unfoldable pub squares_after : Position → Move → List (Option Piece)
squares_after p m = map (placed p m) (range_with_len 0 64)

-- the right is kept where the move does not begin on the first square of its king or rook, nor end
-- on that of the rook
abbrev pub keeps_right : Position → Move → Color → Side → Bool
keeps_right p m color side =
    has_right p.rights color side
    && not (m.from.index == king_home color)
    && not (m.from.index == rook_home color side)
    && not (m.to.index == rook_home color side)

abbrev pub rights_after : Position → Move → Rights
rights_after p m = record {
  white_short = keeps_right p m White Short;
  white_long = keeps_right p m White Long;
  black_short = keeps_right p m Black Short;
  black_long = keeps_right p m Black Long;
}

abbrev pub halfway_square : Square → Square → Square
halfway_square a b = record {
  index = halfway a.index b.index;
  on_board = halfway_on_board a.index b.index a.on_board b.on_board;
}

-- the square that a pawn crossed in a step of two squares
abbrev pub en_passant_after : Position → Move → Option Square
en_passant_after p m = if is_double_step p m then Some (halfway_square m.from m.to) else None

abbrev pub after : Position → Move → Position
after p m = record {
  squares = squares_after p m;
  turn = opponent p.turn;
  rights = rights_after p m;
  en_passant = en_passant_after p m;
}

-- Legal moves.

-- Castling is prevented where the square on which the king stands, the square that it crosses or
-- the square that it goes to is attacked (3.8.2.2.1).
abbrev pub IsCastlingPathSafe : Position → Move → Type 0
IsCastlingPathSafe p m =
    (¬ IsAttacked p.squares (opponent p.turn) m.from.index)
    × (¬ IsAttacked p.squares (opponent p.turn) (halfway m.from.index m.to.index))
    × (¬ IsAttacked p.squares (opponent p.turn) m.to.index)

-- a pseudo-legal move that does not leave the own king attacked (3.9.2, 3.10.1)
abbrev pub Legal : Position → Move → Type 0
Legal p m =
    PseudoLegal p m
    × (¬ InCheck (after p m).squares p.turn)
    × (Castles p m → IsCastlingPathSafe p m)

-- The same position.

-- a move that promotes nothing
abbrev pub quiet : Square → Square → Move
quiet from to = record { from = from; to = to; promotion = None }

-- s is the en passant square, and a pawn can legally be taken there
abbrev pub CanCaptureEnPassant : Position → ℕ → Type 0
CanCaptureEnPassant p s =
    IsSquare p.en_passant s
    × ((m : Move) × IsPiece p.turn Pawn (piece_at p.squares m.from.index)
    × (m.to.index ≡ s) × Legal p m)

-- The same pieces on the same squares, the same side to move and the same moves open (9.2.3): an en
-- passant square counts only where a pawn can legally be taken there.
abbrev pub Same : Position → Position → Type 0
Same p q =
    (p.squares ≡ q.squares)
    × (p.turn ≡ q.turn)
    × (p.rights ≡ q.rights)
    × ((s : ℕ) → CanCaptureEnPassant p s ↔ CanCaptureEnPassant q s)

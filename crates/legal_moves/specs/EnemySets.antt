-- Bridge: what bitboards tell of a board: a bitboard is a set of squares, of which bit s stands for
-- square s.
use Rattle.std.specs.Prelude.{◌≡◌, ◌≢◌, ℕ, ◌<◌, ◌↔◌, ◌⊎◌, List, Option, Some, None}
use Rattle.step_tables.specs.Bitboard.{Holds}
use Rattle.explorer_model.specs.declared.chess.Color.{Color}
use Rattle.explorer_model.specs.declared.chess.Role.TheVariants.{Pawn, Knight, Bishop, Rook, Queen, King}
use Rattle.explorer_model.specs.declared.chess.Piece.{Piece}
use Rattle.explorer_model.specs.declared.chess.Position.{Position}
use Rattle.explorer_model.specs.Board.{opponent, piece_at, IsOfColor, IsPiece, IsBetween, PawnDiagonal, KnightStep, KingStep, RookLine, BishopLine}
use Rattle.explorer_model.specs.Chess.{IsValid}
use Rattle.legal_moves.specs.declared.enemy_sets.EnemySets.{EnemySets}
use Rattle.legal_moves.specs.declared.check_info.CheckInfo.{CheckInfo}

abbrev pub IsOccupied : Option Piece → Type 0
IsOccupied None = ⊥
IsOccupied (Some piece) = Unit {0}

-- a piece that goes along diagonals
abbrev pub IsDiagonal : Color → Option Piece → Type 0
IsDiagonal color occupant = IsPiece color Bishop occupant ⊎ IsPiece color Queen occupant

-- a piece that goes along files and ranks
abbrev pub IsStraight : Color → Option Piece → Type 0
IsStraight color occupant = IsPiece color Rook occupant ⊎ IsPiece color Queen occupant

-- the set of the squares on which such a piece stands
abbrev pub IsBitboardOf : (Option Piece → Type 0) → List (Option Piece) → ℕ → Type 0
IsBitboardOf IsSuch squares bitboard =
    (s : ℕ) → s < 64 → Holds bitboard s ↔ IsSuch (piece_at squares s)

-- the bitboards tell where all pieces stand, and where those of one side
pub record Describes (squares : List (Option Piece)) (enemy : Color) (enemy_sets : EnemySets)
    : Type 0 where
  pub occupied : IsBitboardOf IsOccupied squares enemy_sets.occupied
  pub pawns : IsBitboardOf (IsPiece enemy Pawn) squares enemy_sets.pawns
  pub knights : IsBitboardOf (IsPiece enemy Knight) squares enemy_sets.knights
  pub diagonals : IsBitboardOf (IsDiagonal enemy) squares enemy_sets.diagonals
  pub straights : IsBitboardOf (IsStraight enemy) squares enemy_sets.straights
  pub king : IsBitboardOf (IsPiece enemy King) squares enemy_sets.king

-- no square between two squares is in the set
abbrev pub IsClear : ℕ → ℕ → ℕ → Type 0
IsClear occupied a b = (s : ℕ) → s < 64 → IsBetween a s b → ¬ Holds occupied s

-- a square of the set is such a one
abbrev pub HasSuch : ℕ → (ℕ → Type 0) → Type 0
HasSuch bitboard IsSuch = (a : ℕ) × (a < 64) × Holds bitboard a × IsSuch a

-- one of the pieces that leap, or one of those that go along lines, attacks the square
abbrev pub LeapsTo : EnemySets → Color → ℕ → Type 0
LeapsTo enemy_sets enemy s =
    HasSuch enemy_sets.pawns (λ a. PawnDiagonal enemy a s)
    ⊎ HasSuch enemy_sets.knights (λ a. KnightStep a s)
    ⊎ HasSuch enemy_sets.king (λ a. KingStep a s)

abbrev pub SlidesTo : EnemySets → ℕ → Type 0
SlidesTo enemy_sets s =
    HasSuch enemy_sets.straights (λ a. RookLine a s × IsClear enemy_sets.occupied a s)
    ⊎ HasSuch enemy_sets.diagonals (λ a. BishopLine a s × IsClear enemy_sets.occupied a s)

-- the set without the square, or with it

abbrev pub IsWithout : ℕ → ℕ → ℕ → Type 0
IsWithout bitboard s rest = (b : ℕ) → b < 64 → Holds rest b ↔ (Holds bitboard b × b ≢ s)

abbrev pub IsWith : ℕ → ℕ → ℕ → Type 0
IsWith bitboard s more = (b : ℕ) → b < 64 → Holds more b ↔ (Holds bitboard b ⊎ (b ≡ s))

-- the bitboards where nothing stands on the square
pub record IsEmptied (before : EnemySets) (s : ℕ) (after : EnemySets) : Type 0 where
  pub occupied : IsWithout before.occupied s after.occupied
  pub pawns : IsWithout before.pawns s after.pawns
  pub knights : IsWithout before.knights s after.knights
  pub diagonals : IsWithout before.diagonals s after.diagonals
  pub straights : IsWithout before.straights s after.straights
  pub king : IsWithout before.king s after.king

-- the bitboards where a piece that is no enemy stands on the square
pub record IsFilled (before : EnemySets) (s : ℕ) (after : EnemySets) : Type 0 where
  pub occupied : IsWith before.occupied s after.occupied
  pub pawns : IsWithout before.pawns s after.pawns
  pub knights : IsWithout before.knights s after.knights
  pub diagonals : IsWithout before.diagonals s after.diagonals
  pub straights : IsWithout before.straights s after.straights
  pub king : IsWithout before.king s after.king

-- what is seen of a valid position: its pieces, and the king of the side to move
pub record IsInfoOf (p : Position) (info : CheckInfo) : Type 0 where
  pub valid : IsValid p
  pub enemy_sets : Describes p.squares (opponent p.turn) info.enemy_sets
  pub own : IsBitboardOf (IsOfColor p.turn) p.squares info.own
  pub own_pawns : IsBitboardOf (IsPiece p.turn Pawn) p.squares info.own_pawns
  pub enemies : IsBitboardOf (IsOfColor (opponent p.turn)) p.squares info.enemies
  pub on_board : info.king < 64
  pub king : IsPiece p.turn King (piece_at p.squares info.king)

-- Bridge: what checks and pins ask of a move: that it meets each check, and stays on the line of
-- each pin.
use Rattle.std.specs.Prelude.{◌≡◌, ◌≢◌, ℕ, ◌<◌, ◌⊎◌, List, Option}
use Rattle.explorer_model.specs.declared.chess.Color.{Color}
use Rattle.explorer_model.specs.declared.chess.Role.TheVariants.{King}
use Rattle.explorer_model.specs.declared.chess.Piece.{Piece}
use Rattle.explorer_model.specs.declared.chess.Position.{Position}
use Rattle.explorer_model.specs.Board.{opponent, piece_at, IsEmpty, IsOfColor, IsPiece, IsBetween, RookLine, BishopLine, PawnDiagonal, KnightStep, KingStep, Attacks}
use Rattle.legal_moves.specs.EnemySets.{IsStraight, IsDiagonal, IsClear}
use Rattle.legal_moves.specs.declared.enemy_sets.EnemySets.{EnemySets}
use Rattle.step_tables.specs.Bitboard.{Holds}

-- a bishop, rook or queen of this colour stands on a, and k on one of its lines
abbrev pub IsAimed : List (Option Piece) → Color → ℕ → ℕ → Type 0
IsAimed squares color a k =
    (IsStraight color (piece_at squares a) × RookLine a k)
    ⊎ (IsDiagonal color (piece_at squares a) × BishopLine a k)

-- what stands on s is all that stands between such a piece on a and k
abbrev pub Pins : List (Option Piece) → Color → ℕ → ℕ → ℕ → Type 0
Pins squares color a s k =
    IsAimed squares color a k
    × IsBetween a s k
    × ((t : ℕ) → t < 64 → IsBetween a t k → t ≢ s → IsEmpty (piece_at squares t))

-- a piece of this colour on a attacks the king's square k
abbrev pub Checks : List (Option Piece) → Color → ℕ → ℕ → Type 0
Checks squares color a k = IsOfColor color (piece_at squares a) × Attacks squares a k

-- s is the square of the piece on a, or one between it and k
abbrev pub Meets : ℕ → ℕ → ℕ → Type 0
Meets a s k = (s ≡ a) ⊎ IsBetween a s k

-- a piece that comes to s takes each piece that gives check, or comes before it
abbrev pub IsEvasion : Position → ℕ → Type 0
IsEvasion p s =
    (k : ℕ) → k < 64 → IsPiece p.turn King (piece_at p.squares k)
    → (a : ℕ) → a < 64 → Checks p.squares (opponent p.turn) a k → Meets a s k

-- a piece of the mover stands on s, alone between its king and an enemy bishop, rook or queen
-- whose line it is
abbrev pub IsPinned : Position → ℕ → Type 0
IsPinned p s =
    IsOfColor p.turn (piece_at p.squares s)
    × ((k : ℕ) × (k < 64) × IsPiece p.turn King (piece_at p.squares k)
    × ((a : ℕ) × (a < 64) × Pins p.squares (opponent p.turn) a s k))

-- from `from` to `to` one stays before each piece that pins what stands on `from`, or takes it
abbrev pub StaysOnPins : Position → ℕ → ℕ → Type 0
StaysOnPins p from to =
    (k : ℕ) → k < 64 → IsPiece p.turn King (piece_at p.squares k)
    → (a : ℕ) → a < 64 → Pins p.squares (opponent p.turn) a from k → Meets a to k

-- of the squares between a and k, s alone is in the set
abbrev pub IsAlone : ℕ → ℕ → ℕ → ℕ → Type 0
IsAlone occupied a s k =
    (IsBetween a s k × Holds occupied s)
    × ((t : ℕ) → t < 64 → IsBetween a t k × Holds occupied t → t ≡ s)

-- the piece on a is one that attacks s, as the bitboards tell
abbrev pub IsAttacker : EnemySets → Color → ℕ → ℕ → Type 0
IsAttacker enemy_sets color a s =
    (Holds enemy_sets.pawns a × PawnDiagonal color a s)
    ⊎ (Holds enemy_sets.knights a × KnightStep a s)
    ⊎ (Holds enemy_sets.king a × KingStep a s)
    ⊎ (((Holds enemy_sets.straights a × RookLine a s)
    ⊎ (Holds enemy_sets.diagonals a × BishopLine a s))
    × IsClear enemy_sets.occupied a s)

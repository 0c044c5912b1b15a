-- Statement: the squares 0 to 63 by file and rank, and the lines that two of them share. The crate
-- stands on no other, so these are said again in the definitions of chess; where both meet they are
-- the same by unfolding.
use Rattle.std.specs.Prelude.{◌≡◌, ◌≢◌, ℕ, ◌+◌, ◌-◌, ◌/◌, ◌%◌, ◌<◌, ◌⊎◌}
use Rattle.step_tables.specs.Bitboard.{Holds}

-- 0 for file a, 7 for file h
abbrev pub file_of : ℕ → ℕ
file_of square = square % 8

-- 0 for rank 1, 7 for rank 8
abbrev pub rank_of : ℕ → ℕ
rank_of square = square / 8

-- how far apart two numbers are
abbrev pub gap : ℕ → ℕ → ℕ
gap x y = (x - y) + (y - x)

abbrev pub files_apart : ℕ → ℕ → ℕ
files_apart a b = gap (file_of a) (file_of b)

abbrev pub ranks_apart : ℕ → ℕ → ℕ
ranks_apart a b = gap (rank_of a) (rank_of b)

-- a rook's line: one file or one rank
abbrev pub RookLine : ℕ → ℕ → Type 0
RookLine a b = ((files_apart a b ≡ 0) ⊎ (ranks_apart a b ≡ 0)) × (a ≢ b)

-- a bishop's line: one diagonal
abbrev pub BishopLine : ℕ → ℕ → Type 0
BishopLine a b = (files_apart a b ≡ ranks_apart a b) × (a ≢ b)

abbrev pub QueenLine : ℕ → ℕ → Type 0
QueenLine a b = RookLine a b ⊎ BishopLine a b

-- s lies strictly between a and b, on their common file, rank or diagonal
abbrev pub IsBetween : ℕ → ℕ → ℕ → Type 0
IsBetween a s b =
    ((RookLine a b × RookLine a s × RookLine s b)
    ⊎ (BishopLine a b × BishopLine a s × BishopLine s b))
    × (files_apart a s + files_apart s b ≡ files_apart a b)
    × (ranks_apart a s + ranks_apart s b ≡ ranks_apart a b)

-- no square of the bitboard lies strictly between a and b
abbrev pub IsUnblocked : ℕ → ℕ → ℕ → Type 0
IsUnblocked occupied a b = (s : ℕ) → s < 64 → IsBetween a s b → ¬ Holds occupied s

-- Bridge: a bitboard as the set of its squares.
use Rattle.std.specs.Prelude.{◌≡◌, ℕ, ◌==◌, List}
use Rattle.std.specs.List.{filter, range_with_len}
use Rattle.std.specs.Int.{bit_at}

-- the square is in the set
abbrev pub Holds : ℕ → ℕ → Type 0
Holds bitboard square = bit_at bitboard square ≡ 1

-- the squares of the set, from the lowest to the highest
unfoldable pub squares_of : ℕ → List ℕ
squares_of bitboard = filter (λ square. bit_at bitboard square == 1) (range_with_len 0 64)

-- Bridge: the tests that the tables pass. They are computed when the program is checked.
use Rattle.std.specs.Prelude.{ℕ, zero, suc, ◌+◌, Bool, true, false, ◌&&◌, ◌||◌, ◌==◌, cond, List, [], slice_index, slice_index_or, pos, ◌+ℤ◌}
use Rattle.std.specs.List.{list_any}
use Rattle.std.specs.Int.{bit_at}
use Rattle.std.specs.Ordering.{int_eq}
use Rattle.step_tables.specs.Squares.{file_of, rank_of}
use Rattle.step_tables.specs.Step.{times, direction_at}
use Rattle.step_tables.specs.declared.step.Step.{Step}

-- each number below the bound passes
unfoldable pub all_below : (ℕ → Bool) → ℕ → Bool
all_below test zero = true
all_below test (suc n) = test n && all_below test n

-- some number below the bound passes
unfoldable pub any_below : (ℕ → Bool) → ℕ → Bool
any_below test zero = false
any_below test (suc n) = test n || any_below test n

-- the bitboard is the set of the squares that pass
abbrev pub is_set_of : (ℕ → Bool) → ℕ → Bool
is_set_of test bitboard = all_below (λ b. bit_at bitboard b == cond (test b) 1 0) 64

-- the step leads from a to b
abbrev pub is_step : Step → ℕ → ℕ → Bool
is_step step a b =
    int_eq (pos (file_of a) +ℤ step.files) (pos (file_of b))
    && int_eq (pos (rank_of a) +ℤ step.ranks) (pos (rank_of b))

-- one of the steps leads from a to b
abbrev pub is_reached : List Step → ℕ → ℕ → Bool
is_reached steps a b = list_any (λ step. is_step step a b) steps

-- b lies on the line that leaves a in this direction
abbrev pub is_ahead : Step → ℕ → ℕ → Bool
is_ahead direction a b = any_below (λ passed. is_step (times (passed + 1) direction) a b) 7

-- b lies on one of the lines that leave a
abbrev pub is_in_sight : List Step → ℕ → ℕ → Bool
is_in_sight directions a b = list_any (λ direction. is_ahead direction a b) directions

-- each square has the bitboard of the squares that its steps reach
unfoldable pub has_reached : List Step → List ℕ → Bool
has_reached steps bitboards =
    all_below (λ a. is_set_of (is_reached steps a) (slice_index bitboards a)) 64

-- each square has the bitboard of the squares on its lines
unfoldable pub has_sights : List Step → List ℕ → Bool
has_sights directions bitboards =
    all_below (λ a. is_set_of (is_in_sight directions a) (slice_index bitboards a)) 64

-- each square has a bitboard for each direction, of the squares on that line
unfoldable pub has_lines : ℕ → List Step → List (List ℕ) → Bool
has_lines count directions lines =
    all_below (λ a. all_below (λ direction.
    is_set_of (is_ahead (direction_at directions direction) a)
    (slice_index (slice_index_or lines a []) direction)) count) 64

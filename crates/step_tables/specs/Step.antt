-- Statement: steps and lines by file and rank.
use Rattle.std.specs.Prelude.{◌≡◌, ℕ, ◌+◌, ◌<◌, ◌≤◌, List, length, slice_index_or, pos, ◌+ℤ◌, ◌*ℤ◌}
use Rattle.std.specs.List.{Any}
use Rattle.step_tables.specs.Squares.{file_of, rank_of}
use Rattle.step_tables.specs.Bitboard.{Holds, squares_of}
use Rattle.step_tables.specs.declared.step.Step.{Step}

-- the step leads from a to b
abbrev pub IsStep : Step → ℕ → ℕ → Type 0
IsStep step a b =
    (pos (file_of a) +ℤ step.files ≡ pos (file_of b))
    × (pos (rank_of a) +ℤ step.ranks ≡ pos (rank_of b))

-- one of the steps leads from a to b
abbrev pub IsReached : List Step → ℕ → ℕ → Type 0
IsReached steps a b = Any (λ step. IsStep step a b) steps

-- the step taken so many times
abbrev pub times : ℕ → Step → Step
times count step = record { files = pos count *ℤ step.files; ranks = pos count *ℤ step.ranks }

-- b lies on the line that leaves a in this direction: past none to six squares of it
abbrev pub IsAhead : Step → ℕ → ℕ → Type 0
IsAhead direction a b =
    (passed : ℕ) × (passed < 7) × IsStep (times (passed + 1) direction) a b

-- b lies on one of the lines that leave a
abbrev pub IsInSight : List Step → ℕ → ℕ → Type 0
IsInSight directions a b = Any (λ direction. IsAhead direction a b) directions

-- the direction of a number, which stands in the list
abbrev pub direction_at : List Step → ℕ → Step
direction_at directions number =
    slice_index_or directions number (record { files = pos 0; ranks = pos 0 })

-- of all sets of squares on the lines that leave one square, none has more than so many
abbrev pub AtMostInSight : List Step → ℕ → Type 0
AtMostInSight directions most =
    (a bitboard : ℕ) → a < 64 → ((b : ℕ) → b < 64 → Holds bitboard b → IsInSight directions a b)
    → length (squares_of bitboard) ≤ most

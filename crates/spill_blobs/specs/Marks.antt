-- Statement: the index of a part: the keys of rows 0, 128, 256 and so on.
use Rattle.std.specs.Prelude.{◌*◌, ◌-◌, ℕ, zero, suc, Bool, cond, List, [], ◌∷◌}
use Rattle.std.specs.Ordering.{nat_cmp, is_lt}
use Rattle.std.specs.Cmp.Lexicographic.{slice_cmp}
use Rattle.tally_rows.specs.declared.row.Row.{Row}

-- the keys of each 128th row, where so many rows stand before the first of them
unfoldable pub marks_behind : ℕ → List Row → List (List ℕ)
marks_behind skip [] = []
marks_behind zero (row ∷ rows) = row.key ∷ marks_behind 127 rows
marks_behind (suc skip) (row ∷ rows) = marks_behind skip rows

abbrev pub marks : List Row → List (List ℕ)
marks rows = marks_behind 0 rows

-- how many rows then stand before the next such row, behind these
unfoldable pub skip_behind : ℕ → List Row → ℕ
skip_behind skip [] = skip
skip_behind zero (row ∷ rows) = skip_behind 127 rows
skip_behind (suc skip) (row ∷ rows) = skip_behind skip rows

-- the key of a row, where it has its turn, and how many rows then stand before the next one
abbrev pub marked : ℕ → List ℕ → List (List ℕ)
marked zero key = key ∷ []
marked (suc skip) key = []

abbrev pub skipped : ℕ → ℕ
skipped zero = 127
skipped (suc skip) = skip

abbrev pub is_less : List ℕ → List ℕ → Bool
is_less key one = is_lt (slice_cmp nat_cmp one key)

-- how many of the keys are less than the key
abbrev pub count_of_less : List ℕ → List (List ℕ) → ℕ
count_of_less key [] = 0
count_of_less key (one ∷ keys) =
    cond (is_less key one) (suc (count_of_less key keys)) (count_of_less key keys)

-- how many rows a walk to the key passes: it begins at the last indexed row below the key
abbrev pub place_in : List ℕ → List Row → ℕ
place_in key rows = 128 * (count_of_less key (marks rows) - 1)

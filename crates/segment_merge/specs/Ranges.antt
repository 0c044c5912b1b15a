-- Bridge: rows in ranges of keys.
use Rattle.std.specs.Prelude.{◌≡◌, ℕ, zero, suc, false, List, [], ◌∷◌, Option, None, Some, filter, slice_get}
use Rattle.std.specs.List.{flat_map}
use Rattle.std.specs.Ordering.{nat_cmp, is_gt}
use Rattle.std.specs.Cmp.Lexicographic.{slice_cmp}
use Rattle.tally_rows.specs.declared.row.Row.{Row}
use Rattle.segment_blocks.specs.Walk.{is_within}
use Rattle.segment_merge.specs.Merged.{merged}

-- what is merged of the rows whose keys are not below a first key and are below a second one
abbrev pub merged_within : Option (List ℕ) → Option (List ℕ) → List Row → List Row → List Row
merged_within from below lefts rights =
    merged (filter (is_within from below) lefts) (filter (is_within from below) rights)

-- what is merged of each range between keys, the first of which begins at a key or has no begin
abbrev pub merged_ranges : Option (List ℕ) → List (List ℕ) → List Row → List Row
    → List (List Row)
merged_ranges from [] lefts rights = merged_within from None lefts rights ∷ []
merged_ranges from (key ∷ keys) lefts rights =
    merged_within from (Some key) lefts rights ∷ merged_ranges (Some key) keys lefts rights

-- the rows of ranges, one range after another
abbrev pub rows_of_ranges : List (List Row) → List Row
rows_of_ranges ranges = flat_map (λ range. range) ranges

-- the first key is not above the second one
abbrev pub IsNotAbove : List ℕ → List ℕ → Type 0
IsNotAbove first second = is_gt (slice_cmp nat_cmp first second) ≡ false

-- no key is above the one behind it
abbrev pub AreRising : List (List ℕ) → Type 0
AreRising [] = Unit {0}
AreRising (first ∷ []) = Unit {0}
AreRising (first ∷ second ∷ keys) = IsNotAbove first second × AreRising (second ∷ keys)

-- the key at which range `n` begins; it ends before key `n`
abbrev pub begin_of : List (List ℕ) → ℕ → Option (List ℕ)
begin_of keys zero = None
begin_of keys (suc n) = slice_get keys n

-- the rows of range `n` between keys
abbrev pub rows_in_range : List (List ℕ) → ℕ → List Row → List Row
rows_in_range keys n rows = filter (is_within (begin_of keys n) (slice_get keys n)) rows

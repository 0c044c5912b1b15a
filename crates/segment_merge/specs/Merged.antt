-- Bridge: rows of two lists in one.
use Rattle.std.specs.Prelude.{List, [], ◌∷◌, Option, None, Some}
use Rattle.std.specs.declared.cmp.Ordering.{Ordering}
use Rattle.std.specs.declared.cmp.Ordering.TheVariants.{Less, Equal, Greater}
use Rattle.tally_rows.specs.declared.row.Row.{Row}
use Rattle.tally_rows.specs.RowKey.{row_order}
use Rattle.tally_rows.specs.Row.{row_key_of, combined}

-- the lesser of two first rows, or both put together, before one of three rests
unfoldable pub first_by : Ordering → Row → Row → List Row → List Row → List Row → List Row
first_by Less left right behind_left behind_both behind_right = left ∷ behind_left
first_by Equal left right behind_left behind_both behind_right =
    combined left right ∷ behind_both
first_by Greater left right behind_left behind_both behind_right = right ∷ behind_right

-- a left row among right rows, given what is made of the left rows behind it and any right rows
unfoldable pub put_among : Row → (List Row → List Row) → List Row → List Row
put_among left behind [] = left ∷ behind []
put_among left behind (right ∷ rights) =
    first_by (row_order (row_key_of left) (row_key_of right)) left right (behind (right ∷ rights))
    (behind rights) (put_among left behind rights)

-- the rows of both lists in their order, those with the same five parts put together
unfoldable pub merged : List Row → List Row → List Row
merged [] rights = rights
merged (left ∷ lefts) rights = put_among left (merged lefts) rights

-- how the first rows of two lists stand; a list that has ended stands behind the other
abbrev pub next_order : List Row → List Row → Option Ordering
next_order [] [] = None
next_order [] (right ∷ rights) = Some Greater
next_order (left ∷ lefts) [] = Some Less
next_order (left ∷ lefts) (right ∷ rights) = Some (row_order (row_key_of left) (row_key_of right))

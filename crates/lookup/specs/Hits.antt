-- Bridge: the rows of a position that a query counts.
use Rattle.std.specs.Prelude.{ℕ, ◌+◌, Bool, List, [], ◌∷◌, ◌++◌, map, filter, length}
use Rattle.std.specs.List.{sum_by}
use Rattle.lookup.specs.Parts.{Part}
use Rattle.row_sums.specs.Hits.{NumberedRow}
use Rattle.tally_rows.specs.declared.row_key.RowKey.{RowKey}
use Rattle.tally_rows.specs.Recount.{picks}

-- the rows of a position that are picked by their parts, of parts whose games are numbered one
-- after another from a first one on
unfoldable pub rows_from : List ℕ → (RowKey → Bool) → ℕ → List Part → List NumberedRow
rows_from key pick first [] = []
rows_from key pick first (part ∷ parts) =
    map (λ row. record { row = row; first = first }) (filter (picks key pick) part.rows)
    ++ rows_from key pick (first + length part.classes) parts

-- how many games the parts count
abbrev pub games_counted : List Part → ℕ
games_counted parts = sum_by (λ part. length part.classes) parts

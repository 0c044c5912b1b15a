-- Rows in order before others.
use Rattle.std.proofs.Common.{◌≡◌, List, [], ◌∷◌, ◌++◌, map}
use Rattle.std.specs.List.{AllByRecursion}
use Rattle.std.specs.List.Sorted.{IsStrictlySortedBy}
use Rattle.std.specs.declared.cmp.Ordering.TheVariants.{Less}
use Rattle.tally_rows.specs.declared.row.Row.{Row}
use Rattle.tally_rows.specs.RowKey.{row_order}
use Rattle.tally_rows.specs.Row.{row_key_of}
use Rattle.segment_blocks.specs.PackedRows.{AreInOrder}

pub in_order-front : (xs ys : List Row) → AreInOrder (xs ++ ys) → AreInOrder xs
unfolding IsStrictlySortedBy
in_order-front [] ys h = tt
in_order-front (x ∷ xs) ys h = (front xs h.0, in_order-front xs ys h.1)
  where
    front : (zs : List Row) → AllByRecursion (λ p. row_order (row_key_of x) p ≡ Less) (map row_key_of (zs ++ ys))
        → AllByRecursion (λ p. row_order (row_key_of x) p ≡ Less) (map row_key_of zs)
    front [] h = tt
    front (z ∷ zs) h = (h.0, front zs h.1)

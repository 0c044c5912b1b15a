use Rattle.std.proofs.Common.{Bool, true, false, if◌then◌else◌, List, ◌++◌, sym, ap, subst}
use Rattle.std.specs.Result.{is_ok}
use Rattle.tally_rows.specs.declared.row.Row.{Row}
use Rattle.segment_blocks.specs.PackedRows.{Packed, AreInOrder, ArePacked}
use Rattle.segment_blocks.specs.Walk.{rows_in}
use Rattle.segment_blocks.proofs.PackedLemmas.{ArePacked-append}
use Rattle.segment_blocks.proofs.packed_rows.PackedRows.append.Goals as goal

packed_if : (b : Bool) (xs ys : List (List Row)) → ArePacked xs → ArePacked ys → AreInOrder (rows_in xs ++ rows_in ys)
    → ArePacked (if b then xs ++ ys else xs)
packed_if true xs ys a b ordered = ArePacked-append xs ys a b ordered
packed_if false xs ys a b ordered = a

pub invariant_of-self : goal.invariant_of-self
invariant_of-self c =
    let xs : List (List Row) = c.self.inside.blocks.items in
    let ys : List (List Row) = c.other.inside.blocks.items in
    let ordered : AreInOrder (rows_in xs ++ rows_in ys) = rw (ap (λ (p : Packed). p.rows) c.self.view_is, ap (λ (p : Packed). p.rows) c.other.view_is) c.requires.in_order in
    subst ArePacked (sym c.append.ensures.items) (packed_if (is_ok c.append.result) xs ys c.self.invariant c.other.invariant ordered)

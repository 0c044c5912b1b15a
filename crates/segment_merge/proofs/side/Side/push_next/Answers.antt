use Rattle.std.proofs.Common.{◌++◌, map, sym, subst}
use Rattle.tally_rows.specs.Row.{shifted_row}
use Rattle.segment_blocks.specs.HeldRow.{row_in}
use Rattle.segment_blocks.specs.PackedRows.{AreInOrder}
use Rattle.segment_merge.proofs.SideLemmas.{in_order-next}
use Rattle.segment_merge.proofs.side.Side.push_next.Goals as goal

pub push_shifted-requires-clause-in_order : goal.push_shifted-requires-clause-in_order
push_shifted-requires-clause-in_order g c =
    let s = c.self.inside in
    let rows = c.args.packed.now.rows in
    in_order-next s.by rows s.rest (row_in c.in-Some.held) c.advance.new.self c.in-Some.ensures.rows
    (subst (λ side. AreInOrder (rows ++ side)) (sym c.self.view_is) c.requires.in_order)

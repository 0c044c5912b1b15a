use Rattle.std.proofs.Common.{◌≡◌, suc, ◌-◌, List, length, set, sym, ap, subst, arith}
use Rattle.tally_rows.specs.declared.row.Row.{Row}
use Rattle.segment_blocks.specs.Both.{HaveBothMoved, MayBothMove}
use Rattle.segment_blocks.specs.PackedRows.{Packed}
use Rattle.segment_blocks.specs.Walk.{rows_in}
use Rattle.segment_blocks.proofs.BothLemmas.{HaveBothMoved-none}
use Rattle.segment_blocks.proofs.MovingLemmas.{HaveBothMoved-blocks, ArePacked-both}
use Rattle.segment_blocks.proofs.PackedLemmas.{few-at}
use Rattle.segment_blocks.proofs.packed_rows.PackedRows.take_both.Goals as goal

pub returns-then-count-eq0-clause-moved : goal.returns-then-count-eq0-clause-moved
returns-then-count-eq0-clause-moved g c = HaveBothMoved-none c.args.by.0 c.args.by.1 c.args.left.now c.args.right.now c.args.self.now.rows

pub invariant_of-self : goal.invariant_of-self
invariant_of-self g c =
    let blocks : List (List Row) = c.self.inside.blocks.items in
    let n = length c.as_slice-count.result.now - 1 in
    let e : suc n ≡ length blocks = omega (arith, ap length c.as_slice-count.ensures.value, c.if-count-eq0.false) in
    let moved = c.move_both in
    let may : MayBothMove c.args.by.0 c.args.by.1 c.args.left.now c.args.right.now (rows_in blocks) =
    subst (λ rows. MayBothMove c.args.by.0 c.args.by.1 c.args.left.now c.args.right.now rows) (sym (ap (λ (p : Packed). p.rows) c.self.view_is)) c.requires.in_order in
    ArePacked-both c.args.by.0 c.args.by.1 blocks n e c.index_mut.result.now moved.new.block c.args.left.now moved.new.self c.args.right.now moved.new.other
    c.index_mut.ensures.value moved.ensures.moved c.self.invariant may (moved.ensures.few (few-at blocks n c.index_mut.result.now c.index_mut.ensures.value e c.self.invariant.few))

pub returns-clause-moved : goal.returns-clause-moved
returns-clause-moved g c =
    let blocks : List (List Row) = c.self.inside.blocks.items in
    let n = length c.as_slice-count.result.now - 1 in
    let e : suc n ≡ length blocks = omega (arith, ap length c.as_slice-count.ensures.value, c.if-count-eq0.false) in
    let moved = c.move_both in
    subst (λ rows. HaveBothMoved c.args.by.0 c.args.by.1 c.args.left.now moved.new.self c.args.right.now moved.new.other rows (rows_in (set blocks n moved.new.block)))
    (ap (λ (p : Packed). p.rows) c.self.view_is)
    (HaveBothMoved-blocks c.args.by.0 c.args.by.1 blocks n e c.index_mut.result.now moved.new.block c.args.left.now moved.new.self c.args.right.now moved.new.other
    c.index_mut.ensures.value moved.ensures.moved)

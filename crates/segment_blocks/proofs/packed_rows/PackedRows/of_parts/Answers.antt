use Rattle.std.proofs.Common.{◌≡◌, ◌++◌, sym, ap, subst, ◌∙◌, append_assoc}
use Rattle.segment_blocks.specs.PackedRows.{AreInOrder, rows_of_parts}
use Rattle.segment_blocks.proofs.OrderLemmas.{in_order-front}
use Rattle.segment_blocks.proofs.PackedLemmas.{ArePacked-none}
use Rattle.segment_blocks.proofs.packed_rows.PackedRows.of_parts.Goals as goal

pub invariant_of-all : goal.invariant_of-all
invariant_of-all c = rw c.in_ok-with_capacity.ensures.items ArePacked-none

pub append-requires : goal.append-requires
append-requires c =
    let part = c.in-Some.part in
    let all = c.loop-part.all.rows in
    let rest = rows_of_parts c.next.new.self.rest.items in
    let whole : rows_of_parts c.args.parts.items ≡ (all ++ part.rows) ++ rest =
    sym c.loop-part.invariant ∙ ap (λ parts. all ++ rows_of_parts parts) c.in-Some.ensures.steps.0 ∙ sym (append_assoc all part.rows rest) in
    let ordered : AreInOrder (all ++ part.rows) =
    in_order-front (all ++ part.rows) rest (subst AreInOrder whole c.requires.in_order) in
    record { in_order = subst AreInOrder (ap (λ shrunk. all ++ shrunk.rows) (sym c.shrink_last.ensures)) ordered }

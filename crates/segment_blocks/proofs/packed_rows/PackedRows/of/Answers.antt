use Rattle.std.proofs.Common.{◌≡◌, ◌+◌, ◌++◌, drop, sym, ap, subst, ◌∙◌, arith}
use Rattle.std.specs.List.{flat_map}
use Rattle.segment_blocks.specs.PackedRows.{AreInOrder}
use Rattle.segment_blocks.proofs.OrderLemmas.{in_order-front}
use Rattle.segment_blocks.proofs.PartLemmas.{parts_from, parts_more}
use Rattle.segment_blocks.proofs.packed_rows.PackedRows.of.Goals as goal

pub push_all-requires : goal.push_all-requires
push_all-requires c =
    let parts = c.args.parts.now in
    let i = c.loop-part.part-index in
    let part = c.part-item.result in
    let behind = flat_map (λ p. p.items) (drop (i + 1) parts) in
    let whole : flat_map (λ p. p.items) parts ≡ (c.loop-part.packed.rows ++ c.as_slice.result.now) ++ behind =
    parts_from (λ p. p.items) parts i part c.loop-part-test.true (sym c.part-item.is)
    ∙ ap (λ l. (l ++ part.items) ++ behind) (sym c.loop-part.invariant.packed)
    ∙ ap (λ l. (c.loop-part.packed.rows ++ l) ++ behind) (sym c.as_slice.ensures.value) in
    record { in_order = in_order-front (c.loop-part.packed.rows ++ c.as_slice.result.now) behind (subst AreInOrder whole c.requires.in_order) }

pub loop-part-preserved : goal.loop-part-preserved
loop-part-preserved c =
    let parts = c.args.parts.now in
    let part = c.part-item.result in
    record {
      within = omega (arith, c.loop-part-test.true);
      packed = c.in_ok-push_all.ensures
          ∙ ap (λ l. c.loop-part.packed.rows ++ l) c.as_slice.ensures.value
          ∙ ap (λ l. l ++ part.items) c.loop-part.invariant.packed
          ∙ parts_more (λ p. p.items) parts c.loop-part.part-index part c.loop-part-test.true (sym c.part-item.is);
    }

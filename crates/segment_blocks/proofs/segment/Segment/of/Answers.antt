use Rattle.std.proofs.Common.{◌≡◌, ◌++◌, [], ◌∷◌, length, ap, ◌∙◌, arith}
use Rattle.std.specs.List.{flat_map}
use Rattle.segment_blocks.proofs.SegmentLemmas.{texts-length, IsHeld-one}
use Rattle.segment_blocks.proofs.segment.Segment.of.Goals as goal

pub overflow_cast-games : goal.overflow_cast-games
overflow_cast-games c =
    let counted = c.into_parts-batch.ensures.counted in
    omega (
      arith,
      c.len-games.ensures,
      ap length c.into_parts-batch.ensures.classes,
      texts-length c.args.tally counted,
      counted.batch.few,
    )

pub invariant_of-result : goal.invariant_of-result
invariant_of-result c =
    let tally = c.args.tally in
    let told = c.into_parts-batch.ensures in
    let new = c.in_ok-of in
    let items : c.push.new.self.items ≡ new.field-0 ∷ [] =
    c.in_ok-push.ensures.items ∙ ap (λ l. l ++ new.field-0 ∷ []) c.new-batches.ensures.items in
    let held = IsHeld-one c.args.first new.field-0 c.in_ok-rows.rows tally told.counted new.ensures.start (new.ensures.batch ∙ told.batch)
    (new.ensures.classes ∙ told.classes) (c.in_ok-rows.ensures ∙ ap (λ l. flat_map (λ p. p.items) l) c.as_slice.ensures.value ∙ told.rows) c.requires c.len-games.result
    (c.len-games.ensures ∙ ap length told.classes) c.block_count-blocks.ensures.blocks in
    rw items held

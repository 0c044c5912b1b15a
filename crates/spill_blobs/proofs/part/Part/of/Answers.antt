use Rattle.std.proofs.Common.{◌≡◌, ◌*◌, length, ap, ◌∙◌, arith}
use Rattle.spill_blobs.specs.RowBlocks.{block_size}
use Rattle.spill_blobs.proofs.WrittenLemmas.{length-rows, spilled-of}
use Rattle.spill_blobs.proofs.part.Part.of.Goals as goal

pub invariant_of-result : goal.invariant_of-result
invariant_of-result c =
    let rows = c.args.segment.rows in
    let has = c.requires.sheet in
    let size : length c.args.sheet.bytes.items ≡ block_size * length rows = ap length has.bytes ∙ length-rows rows has.room in
    let count : c.args.sheet.count ≡ length rows = omega (arith, has.count, size, c.requires.low) in
    let is = c.span-span.ensures.segment in
    spilled-of _ c.args.segment c.of.ensures is (c.rows_of_segments_are_played.ensures c.args.segment is) has.room count
    (omega (arith, count, size, c.requires.low)) has.keys c.into_kept.ensures

pub returns-clause-size : goal.returns-clause-size
returns-clause-size c =
    let rows = c.args.segment.rows in
    let has = c.requires.sheet in
    let size : length c.args.sheet.bytes.items ≡ block_size * length rows = ap length has.bytes ∙ length-rows rows has.room in
    omega (arith, length-rows rows has.room, has.count, size, c.requires.low)

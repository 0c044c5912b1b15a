use Rattle.std.proofs.Common.{length, ap, arith}
use Rattle.segment_blocks.specs.Encoded.{Encoded, rows_of}
use Rattle.segment_blocks.proofs.EncodedLemmas.{length-rows_behind}
use Rattle.segment_blocks.proofs.encoded_rows.EncodedRows.len.Goals as goal

pub returns : goal.returns
returns c first =
    let e = c.self.inside in
    omega (
      arith,
      c.len.ensures,
      e.marks.ok,
      length-rows_behind e.marks.items first e.tails.items e.whole.items c.self.invariant,
      ap (λ (e : Encoded). length (rows_of e first)) c.self.view_is,
    )

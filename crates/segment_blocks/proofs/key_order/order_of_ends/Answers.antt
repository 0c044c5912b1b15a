use Rattle.std.proofs.Common.{sym, ◌∙◌, arith}
use Rattle.segment_blocks.proofs.KeyOrderLemmas.{byte-same, last-byte}
use Rattle.segment_blocks.proofs.key_order.order_of_ends.Goals as goal

pub returns : goal.returns
returns c =
    let a = c.args.a.now in
    let b = c.args.b.now in
    c.cmp-2.ensures ∙ sym (byte-same a b c.told-a c.told-b 32 (omega arith) c.if-a-b.false ∙ last-byte a b c.told-a c.told-b)

use Rattle.std.proofs.Common.{arith}
use Rattle.answer_json.proofs.Strings.{byte-plain, text-plain}
use Rattle.answer_json.proofs.pieces.is_unescaped.Goals as goal

pub loop-byte-preserved : goal.loop-byte-preserved
loop-byte-preserved c =
    byte-plain c.args.text.now c.loop-byte.byte-index c.loop-byte-test.true c.loop-byte.invariant (c.is_escaped.ensures c.if-is_escaped.false)

pub returns : goal.returns
returns c = λ whole. text-plain c.args.text.now c.loop-byte.byte-index (omega arith) c.loop-byte.invariant

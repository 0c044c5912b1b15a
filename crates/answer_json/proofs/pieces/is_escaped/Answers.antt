use Rattle.answer_json.proofs.Strings.{letter-byte, plain-byte}
use Rattle.answer_json.proofs.pieces.is_escaped.Goals as goal

pub returns-then-byte-gt92 : goal.returns-then-byte-gt92
returns-then-byte-gt92 c = λ _. letter-byte c.args.byte c.if-byte-gt92.true

pub returns-else-byte-eq34 : goal.returns-else-byte-eq34
returns-else-byte-eq34 c = λ slash. plain-byte c.args.byte c.if-byte-lt32.false c.if-byte-eq34.false slash

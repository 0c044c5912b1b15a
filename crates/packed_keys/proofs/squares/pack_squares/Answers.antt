use Rattle.std.proofs.Common.{arith, rules, sym}
use Rattle.packed_keys.proofs.Packed.{packed-is}
use Rattle.packed_keys.proofs.squares.pack_squares.Goals as goal

pub returns-clause-bytes : goal.returns-clause-bytes
returns-clause-bytes c =
    sym (packed-is c.args.squares.now c.loop-byte.bytes (search rules) c.loop-byte.invariant.size
    (λ k below. c.loop-byte.invariant.pieces k (omega (arith, below, c.loop-byte-test.false))))

use Rattle.std.proofs.Common.{w64, ◌<◌, arith}
use Rattle.std.proofs.lemmas.Nat.Bits.{bit_at-trailing_zeros}
use Rattle.step_tables.proofs.bitboard.lowest.Goals as goal

pub returns-clause-within : goal.returns-clause-within
returns-clause-within c = let some : 0 < c.args.bitboard = omega (arith, c.requires) in (bit_at-trailing_zeros w64 c.args.bitboard some c.ranges.bitboard.fits).1

pub returns-clause-first : goal.returns-clause-first
returns-clause-first c = let some : 0 < c.args.bitboard = omega (arith, c.requires) in
    λ b h set. omega (arith, set, (bit_at-trailing_zeros w64 c.args.bitboard some c.ranges.bitboard.fits).2 b h)

use Rattle.std.proofs.Common.{◌<◌, ◌^◌, bit_and, arith}
use Rattle.std.proofs.lemmas.Nat.{and_le_l}
use Rattle.std.proofs.lemmas.Bool.Decides.{Decides-eqb}
use Rattle.step_tables.proofs.BitboardLemmas.{disjoint}
use Rattle.step_tables.proofs.Rule.{both}
use Rattle.step_tables.proofs.bitboard.is_disjoint.Goals as goal

pub returns : goal.returns
returns c =
    let fits : bit_and c.args.bitboard c.args.other < 2 ^ 64 =
    omega (arith, and_le_l c.args.bitboard c.args.other, c.ranges.bitboard.fits) in
    both (Decides-eqb (bit_and c.args.bitboard c.args.other) 0) (disjoint c.args.bitboard c.args.other fits)

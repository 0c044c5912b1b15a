use Rattle.step_tables.proofs.BitboardLemmas.{Holds-only}
use Rattle.step_tables.proofs.bitboard.only.Goals as goal

pub returns : goal.returns
returns c = λ b h. Holds-only c.args.square b c.requires

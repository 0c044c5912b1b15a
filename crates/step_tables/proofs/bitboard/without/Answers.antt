use Rattle.step_tables.proofs.BitboardLemmas.{Holds-without, without-less}
use Rattle.step_tables.proofs.bitboard.without.Goals as goal

pub returns-clause-others : goal.returns-clause-others
returns-clause-others c = λ b h. Holds-without c.args.bitboard c.args.square b c.requires h

pub returns-clause-less : goal.returns-clause-less
returns-clause-less c = without-less c.args.bitboard c.args.square c.requires

use Rattle.std.proofs.Common.{arith}
use Rattle.pgn_lex.proofs.ByteTables.{told}
use Rattle.pgn_lex.proofs.byte_table.ByteTable.has.Goals as goal

pub returns : goal.returns
returns c = told c.args.self.now.class c.args.self.now.marks.now c.args.byte 256 c.args.self.now.right (omega (arith, c.ranges.byte.fits))

use Rattle.std.proofs.Common.{refl}
use Rattle.pgn_lex.specs.ByteTable.{tells_below}
use Rattle.pgn_lex.proofs.bytes.begins_symbol.Goals as goal

pub invariant_of-table : goal.invariant_of-table
unfolding tells_below
invariant_of-table c = record { right = refl }

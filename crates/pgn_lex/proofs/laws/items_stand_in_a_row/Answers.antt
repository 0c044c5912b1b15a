use Rattle.pgn_lex.proofs.Rows.{items-row}
use Rattle.pgn_lex.proofs.laws.items_stand_in_a_row.Goals as goal

pub returns : goal.returns
returns c = items-row

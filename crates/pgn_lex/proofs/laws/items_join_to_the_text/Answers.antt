use Rattle.pgn_lex.proofs.Rows.{items-join}
use Rattle.pgn_lex.proofs.laws.items_join_to_the_text.Goals as goal

pub returns : goal.returns
returns c = items-join

use Rattle.pgn_lex.proofs.Export.{exported}
use Rattle.pgn_lex.proofs.laws.exported_is_read.Goals as goal

pub returns : goal.returns
returns c = exported

use Rattle.pgn_lex.proofs.Rows.{parts-apart}
use Rattle.pgn_lex.proofs.laws.tokens_stand_apart.Goals as goal

pub returns : goal.returns
returns c = parts-apart

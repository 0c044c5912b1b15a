use Rattle.pgn_lex.proofs.Rows.{faults-below}
use Rattle.pgn_lex.proofs.laws.faults_stand_in_the_text.Goals as goal

pub returns : goal.returns
returns c = faults-below

use Rattle.pgn_cut.proofs.Starts.{texts-some, texts-start, texts-whole}
use Rattle.pgn_cut.proofs.laws.texts_run_from_start_to_start.Goals as goal

pub returns-clause-whole : goal.returns-clause-whole
returns-clause-whole c = texts-whole

pub returns-clause-starts : goal.returns-clause-starts
returns-clause-starts c = texts-start

pub returns-clause-some : goal.returns-clause-some
returns-clause-some c = texts-some

use Rattle.pgn_cut.proofs.Runs.{run-cuts}
use Rattle.pgn_cut.proofs.laws.pieces_do_not_matter.Goals as goal

pub returns : goal.returns
returns c = run-cuts

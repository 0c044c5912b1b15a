use Rattle.fen_uci.proofs.Positions.{gives_valid}
use Rattle.fen_uci.proofs.laws.what_is_read_is_valid.Goals as goal

pub returns : goal.returns
returns c = gives_valid

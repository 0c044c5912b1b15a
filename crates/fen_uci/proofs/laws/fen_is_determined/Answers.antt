use Rattle.fen_uci.proofs.Determined.{one_position}
use Rattle.fen_uci.proofs.laws.fen_is_determined.Goals as goal

pub returns : goal.returns
returns c = one_position

use Rattle.fen_uci.proofs.Moves.{one_reading}
use Rattle.fen_uci.proofs.laws.uci_is_determined.Goals as goal

pub returns : goal.returns
returns c = one_reading

use Rattle.legal_moves.proofs.PlayLemmas.{legal_keeps_validity}
use Rattle.legal_moves.proofs.laws.legal_moves_keep_validity.Goals as goal

pub returns : goal.returns
returns c = legal_keeps_validity

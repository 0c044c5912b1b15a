use Rattle.legal_moves.proofs.SameMoves.{same_moves}
use Rattle.legal_moves.proofs.laws.same_positions_have_the_same_moves.Goals as goal

pub returns : goal.returns
returns c = same_moves

use Rattle.player_lookup.proofs.FoundMoves.{found-legal}
use Rattle.player_lookup.proofs.laws.found_moves_are_legal.Goals as goal

pub returns : goal.returns
returns c = found-legal c.found_moves_are_legal.ensures.first

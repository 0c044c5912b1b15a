use Rattle.tally_rows.proofs.Joining.{JoinsMoves-cover}
use Rattle.tally_rows.proofs.laws.moves_join.Goals as goal

pub returns : goal.returns
returns c = JoinsMoves-cover

use Rattle.step_tables.proofs.BoundLemmas.{AtMostInSight-queen}
use Rattle.step_tables.proofs.pieces.queen_bound.Goals as goal

pub returns : goal.returns
returns c = AtMostInSight-queen

use Rattle.tally_rows.proofs.Determined.{Tallied-determined}
use Rattle.tally_rows.proofs.laws.tallied_rows_are_determined.Goals as goal

pub returns : goal.returns
returns c = Tallied-determined

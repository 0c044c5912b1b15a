use Rattle.tally_rows.proofs.Ranges.{ranges-tallied}
use Rattle.tally_rows.proofs.laws.ranges_are_tallied.Goals as goal

pub returns : goal.returns
returns c = ranges-tallied

use Rattle.tally_rows.proofs.Determined.{TalliedWithin-determined}
use Rattle.tally_rows.proofs.laws.rows_within_are_determined.Goals as goal

pub returns : goal.returns
returns c = TalliedWithin-determined

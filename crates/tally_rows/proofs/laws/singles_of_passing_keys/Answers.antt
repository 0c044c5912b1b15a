use Rattle.tally_rows.proofs.Ranges.{visits-within}
use Rattle.tally_rows.proofs.laws.singles_of_passing_keys.Goals as goal

pub returns : goal.returns
returns c = visits-within

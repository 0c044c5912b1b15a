use Rattle.tally_rows.proofs.Singles.{first-visits}
use Rattle.tally_rows.proofs.laws.singles_of_first_visits.Goals as goal

pub returns : goal.returns
returns c = first-visits

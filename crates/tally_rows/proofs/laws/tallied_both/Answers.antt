use Rattle.tally_rows.proofs.Both.{Tallied-both}
use Rattle.tally_rows.proofs.laws.tallied_both.Goals as goal

pub returns : goal.returns
returns c = Tallied-both

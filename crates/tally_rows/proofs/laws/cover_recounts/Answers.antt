use Rattle.tally_rows.proofs.Recounting.{Recounts-cover}
use Rattle.tally_rows.proofs.laws.cover_recounts.Goals as goal

pub returns : goal.returns
returns c = Recounts-cover

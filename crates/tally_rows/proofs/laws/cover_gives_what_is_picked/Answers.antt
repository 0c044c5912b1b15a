use Rattle.tally_rows.proofs.Covers.{GivesPicked-cover}
use Rattle.tally_rows.proofs.laws.cover_gives_what_is_picked.Goals as goal

pub returns : goal.returns
returns c = GivesPicked-cover

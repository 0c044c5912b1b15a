use Rattle.session.proofs.DrawnLemmas.{drawn-among}
use Rattle.session.proofs.laws.what_is_drawn_is_imported.Goals as goal

pub returns : goal.returns
returns c = drawn-among

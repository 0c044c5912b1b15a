use Rattle.explorer.proofs.LawLemmas.Creation.{one_creation}
use Rattle.explorer.proofs.laws.a_creation_is_determined.Goals as goal

pub returns : goal.returns
returns c = one_creation

use Rattle.explorer.proofs.LawLemmas.Apart.{stand_apart}
use Rattle.explorer.proofs.laws.groups_without_repeats_stand_apart.Goals as goal

pub returns : goal.returns
returns c = stand_apart

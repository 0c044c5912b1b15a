use Rattle.sample_games.proofs.Ids.{ids-differ}
use Rattle.sample_games.proofs.laws.ids_differ.Goals as goal

pub returns : goal.returns
returns c = ids-differ

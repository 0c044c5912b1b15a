use Rattle.sample_games.proofs.Cutting.{samples-cut}
use Rattle.sample_games.proofs.laws.streams_are_cut_into_samples.Goals as goal

pub returns : goal.returns
returns c = λ first before behind texts are. samples-cut first before behind texts are

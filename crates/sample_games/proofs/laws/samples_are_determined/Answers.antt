use Rattle.sample_games.proofs.Determined.{one-sample}
use Rattle.sample_games.proofs.laws.samples_are_determined.Goals as goal

pub returns : goal.returns
returns c = λ index before behind other_behind text other sample again.
    one-sample c.notation_is_determined.ensures.writing index before text other behind other_behind sample again

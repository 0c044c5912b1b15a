use Rattle.import_run.proofs.UnendedLemmas.{unended}
use Rattle.import_run.proofs.laws.what_has_not_ended_is_not_stored.Goals as goal

pub returns : goal.returns
returns g c = λ label stream rest byte report below few comes. unended stream rest byte report below few comes

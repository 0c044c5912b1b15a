use Rattle.record_log.proofs.DeterminedLemmas.{created_one}
use Rattle.record_log.proofs.laws.creating_is_determined.Goals as goal

pub returns-clause-created : goal.returns-clause-created
returns-clause-created g c = λ format disk log after created also. created_one _ _ format disk log after created also

use Rattle.session.proofs.FaultlessLemmas.{import-stored}
use Rattle.session.proofs.laws.imports_without_faults_are_stored.Goals as goal

pub returns : goal.returns
returns c = import-stored

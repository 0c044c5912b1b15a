use Rattle.ingest_desk.proofs.SoundLemmas.{none_wrong, one_fault, one_journal}
use Rattle.ingest_desk.proofs.laws.opening_is_determined.Goals as goal

pub returns-clause-opened : goal.returns-clause-opened
returns-clause-opened c = one_journal

pub returns-clause-refused : goal.returns-clause-refused
returns-clause-refused c = one_fault

pub returns-clause-either : goal.returns-clause-either
returns-clause-either c = none_wrong

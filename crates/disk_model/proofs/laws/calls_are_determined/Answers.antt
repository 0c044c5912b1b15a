use Rattle.disk_model.proofs.DeterminedLemmas.{one_read, one_write, one_rest}
use Rattle.disk_model.proofs.laws.calls_are_determined.Goals as goal

pub returns-clause-reads : goal.returns-clause-reads
returns-clause-reads c = one_read

pub returns-clause-writes : goal.returns-clause-writes
returns-clause-writes c = one_write

pub returns-clause-rests : goal.returns-clause-rests
returns-clause-rests c = one_rest

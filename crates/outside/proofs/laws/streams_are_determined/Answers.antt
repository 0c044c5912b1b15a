use Rattle.outside.proofs.DeterminedLemmas.{one_read, one_write}
use Rattle.outside.proofs.laws.streams_are_determined.Goals as goal

pub returns : goal.returns
returns c = record { gives = one_read; takes = one_write }

use Rattle.fen_uci.proofs.FaultLemmas.{reads-kept, refused-faulty}
use Rattle.fen_uci.proofs.laws.faults_are_told_field_by_field.Goals as goal

pub returns-clause-read : goal.returns-clause-read
returns-clause-read c = reads-kept

pub returns-clause-refused : goal.returns-clause-refused
returns-clause-refused c = refused-faulty

use Rattle.record_log.proofs.DeterminedLemmas.{opened_one, one_fault, opened_or_refused}
use Rattle.record_log.proofs.laws.opening_is_determined.Goals as goal

pub returns-clause-opened : goal.returns-clause-opened
returns-clause-opened g c = λ format disk file payloads others log after told opened also.
    opened_one _ _ format disk file told payloads others log after opened also

pub returns-clause-refused : goal.returns-clause-refused
returns-clause-refused g c = λ format disk back after file fault other told read also.
    one_fault format _ file told fault other read also

pub returns-clause-either : goal.returns-clause-either
returns-clause-either g c = λ format disk back file payloads log fault told opened read.
    opened_or_refused _ _ format disk file told payloads log fault opened read

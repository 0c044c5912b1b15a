use Rattle.published_index.proofs.DeterminedLemmas.{one-put, one-retry, one-enter, one-learn}
use Rattle.published_index.proofs.laws.answers_are_determined.Goals as goal

pub returns-clause-put : goal.returns-clause-put
returns-clause-put c = one-put

pub returns-clause-retry : goal.returns-clause-retry
returns-clause-retry c = one-retry

pub returns-clause-enter : goal.returns-clause-enter
returns-clause-enter c = one-enter

pub returns-clause-learn : goal.returns-clause-learn
returns-clause-learn c = one-learn

use Rattle.published_index.proofs.EventLemmas.{start-is, put-is, join-is, enter-is, learn-is}
use Rattle.published_index.proofs.laws.calls_are_events.Goals as goal

pub returns-clause-start : goal.returns-clause-start
returns-clause-start c = start-is

pub returns-clause-put : goal.returns-clause-put
returns-clause-put c = put-is

pub returns-clause-join : goal.returns-clause-join
returns-clause-join c = join-is

pub returns-clause-enter : goal.returns-clause-enter
returns-clause-enter c = enter-is

pub returns-clause-learn : goal.returns-clause-learn
returns-clause-learn c = learn-is

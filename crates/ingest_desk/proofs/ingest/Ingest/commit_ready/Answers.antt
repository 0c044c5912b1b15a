use Rattle.ingest_desk.proofs.ingest.Ingest.commit_ready.Goals as goal

pub returns-clause-answer : goal.returns-clause-answer
returns-clause-answer g c = rw c.of_ready.ensures at c.commit_handed.ensures.answer

pub returns-clause-crash : goal.returns-clause-crash
returns-clause-crash g c = rw c.of_ready.ensures at c.commit_handed.ensures.crash

pub returns-clause-behind : goal.returns-clause-behind
returns-clause-behind g c = rw c.of_ready.ensures at c.commit_handed.ensures.behind

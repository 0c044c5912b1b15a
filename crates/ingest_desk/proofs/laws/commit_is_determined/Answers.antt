use Rattle.ingest_desk.proofs.AnswerLemmas.{one-answer, one-drawing}
use Rattle.ingest_desk.proofs.laws.commit_is_determined.Goals as goal

pub returns-clause-answer : goal.returns-clause-answer
returns-clause-answer g c tally games journal held old new after answer other first second same has had =
    one-answer _ tally games journal held old new after same answer other first second has had

pub returns-clause-drawn : goal.returns-clause-drawn
returns-clause-drawn g c answer place old mine yours first second =
    one-drawing answer place old mine yours first second

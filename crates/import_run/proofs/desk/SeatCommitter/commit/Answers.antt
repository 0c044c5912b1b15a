use Rattle.import_run.proofs.AnsweredLemmas.{ran_untold}
use Rattle.import_run.proofs.desk.SeatCommitter.commit.Goals as goal

pub returns-then-is_ok-clause-ran : goal.returns-then-is_ok-clause-ran
returns-then-is_ok-clause-ran g c =
    let answer = c.store_at-answer in
    ran_untold c.args.handed answer.result answer.ensures.clash answer.ensures.answers answer.ensures.drawn

pub returns-else-is_ok-clause-ran : goal.returns-else-is_ok-clause-ran
returns-else-is_ok-clause-ran g c =
    let answer = c.store_at-answer in
    ran_untold c.args.handed answer.result answer.ensures.clash answer.ensures.answers answer.ensures.drawn

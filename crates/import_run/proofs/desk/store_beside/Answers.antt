use Rattle.import_run.proofs.AnswerLemmas.{answers-to, clash-of}
use Rattle.import_run.proofs.DrawLemmas.{place-of}
use Rattle.import_run.proofs.desk.store_beside.Goals as goal

pub returns-clause-clash : goal.returns-clause-clash
returns-clause-clash g c =
    let r = c.commit_handed.ensures in
    clash-of _ _ c.args.handed c.args.ingest.now c.commit_handed.new.self _ _ r.sound c.commit_handed.result r.answer

pub returns-clause-answers : goal.returns-clause-answers
returns-clause-answers g c =
    let r = c.commit_handed.ensures in
    answers-to _ _ c.args.handed c.args.ingest.now c.commit_handed.new.self _ _ r.sound c.commit_handed.result r.answer

pub returns-clause-drawn : goal.returns-clause-drawn
returns-clause-drawn g c =
    place-of _ _ c.args.handed c.args.ingest.now c.commit_handed.new.self _ _ c.commit_handed.result c.commit_handed.ensures.answer

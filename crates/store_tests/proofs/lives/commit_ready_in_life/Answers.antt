use Rattle.ingest_desk.proofs.CommitLemmas.{stores_by}
use Rattle.store_tests.proofs.lives.commit_ready_in_life.Goals as goal

pub returns : goal.returns
returns g c life lived =
    let r = c.commit_ready-answer.ensures in
    let a = c.batches-after.ensures in
    let d = g.D.Disk in
    let old = c.args.ingest.now in
    let new = c.commit_ready-answer.new.self in
    c.commits_are_events.ensures.answers life c.args.ready old new c.commit_ready-answer.result
    (record {
      store = stores_by d.disk d.left_since c.args.ready old new _ _ c.commit_ready-answer.result r.answer;
      was_sound = r.sound;
      crash = r.crash;
      behind = r.behind;
      sound = a.sound;
      keeps = a.keeps;
    }) lived

use Rattle.std.proofs.Common.{◌≡◌, Option, Some, sym, subst, refl}
use Rattle.import_run.specs.Alone.{stored_in}
use Rattle.import_run.specs.Committing.{Commits, Store}
use Rattle.import_run.proofs.AloneLemmas.{commits}
use Rattle.import_run.proofs.AnswerLemmas.{answers-to, clash-of}
use Rattle.import_run.proofs.AnsweredLemmas.{ran_one}
use Rattle.import_run.proofs.DrawLemmas.{place-of}
use Rattle.import_run.proofs.FollowLemmas.{commit_alone}
use Rattle.import_run.proofs.SinceLemmas.{commit_since}
use Rattle.import_run.proofs.alone.LoneSeatCommitter.commit.Goals as goal

pub returns-clause-ran : goal.returns-clause-ran
returns-clause-ran g c =
    let answer = c.commit_handed-answer in
    let old = c.args.self.now.ingest.now in
    let sound = answer.ensures.sound in
    let by = answer.ensures.answer in
    let same = c.merge_behind-lacks.ensures.same in
    let stored : Some (stored_in c.merge_behind-lacks.new.ingest) ≡ Some (stored_in answer.new.self) =
    λ i. Some (record { journal = same.same_journal i; fault = (same.same_manifest i).fault; failed = same.same_failed i }) in
    ran_one c.args.handed answer.result
    (λ known is.
    let P : Option Store → Type 0 = λ s. Commits answer.result known c.args.handed s in
    subst P (sym stored) (commits c.game_is_determined.ensures _ _ c.args.handed old answer.new.self _ _ answer.result by known is))
    (clash-of _ _ c.args.handed old answer.new.self _ _ sound answer.result by)
    (answers-to _ _ c.args.handed old answer.new.self _ _ sound answer.result by)
    (place-of _ _ c.args.handed old answer.new.self _ _ answer.result by)

pub returns-clause-since : goal.returns-clause-since
returns-clause-since g c =
    let answer = c.commit_handed-answer in
    let r = answer.ensures in
    let d = g.D.Disk in
    let old = c.args.self.now.ingest.now in
    let since = commit_since d.disk d.left_since g.met.D.Disk.counts_now old answer.new.self c.args.handed c.batches-after.ensures.keeps r.crash _ _ r.sound r.behind answer.result r.answer in (
      refl,
      refl,
      commit_alone d.disk d.left_since old answer.new.self c.merge_behind-lacks.new.ingest c.merge_behind-lacks.ensures.same c.args.handed _ _ r.sound answer.result r.answer
          since c.args.self.now.lacked c.merge_behind-lacks.result c.either-self.result c.merge_behind-lacks.ensures.merges c.either-self.ensures,
    )

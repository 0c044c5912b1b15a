use Rattle.ingest_desk.proofs.JobLemmas.{installed_sound, installed_stands}
use Rattle.ingest_desk.proofs.merge_desk.install.Goals as goal

pub returns-clause-sound : goal.returns-clause-sound
returns-clause-sound g c =
    let job = c.args.job in
    let known = c.batches-known.ensures in
    let answer = c.install-answer in
    installed_sound job.left.span job.right.span c.args.merged c.args.ingest.now.index
    answer.new.self.index known.list known.sound answer.result answer.ensures.installs

pub returns-clause-stands : goal.returns-clause-stands
returns-clause-stands g c =
    let job = c.args.job in
    let known = c.batches-known.ensures in
    let answer = c.install-answer in
    installed_stands job.left.span job.right.span c.args.merged c.args.ingest.now.index
    answer.new.self.index known.list answer.result answer.ensures.installs

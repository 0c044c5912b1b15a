use Rattle.std.proofs.Common.{rules, ◌≡◌, false, None, sym}
use Rattle.ingest_desk.specs.Drawn.{DrawsFor, most_untold}
use Rattle.ingest_desk.specs.Importers.{ending_of}
use Rattle.import_run.specs.Alone.{ImportsAlone}
use Rattle.import_run.specs.Upkeep.{Follows}
use Rattle.import_run.proofs.AloneLemmas.{imports_alone}
use Rattle.import_run.proofs.FollowLemmas.{tied}
use Rattle.import_run.proofs.alone.import_and_tell.Goals as goal

pub returns-clause-alone : goal.returns-clause-alone
returns-clause-alone g c =
    let d = g.D.Disk in
    let r = c.import_stream-report in
    let old = g.S.Source.source c.args.source.now in
    let new = g.S.Source.source r.new.source in
    let mid = r.new.committer.ingest.now in
    let name = sym r.ensures.since.0 in
    tied (λ after. ImportsAlone c.args.label d.disk d.left_since old c.args.ingest.now new after r.result) mid _ (search rules)
    (imports_alone d.disk d.left_since c.args.ingest.now mid r.ensures.since.2.since r.result old new c.batches-before.ensures.sound c.batches-before.ensures.keeps c.batches-after.ensures.sound c.batches-after.ensures.keeps r.ensures.told)

pub returns-clause-follows : goal.returns-clause-follows
returns-clause-follows g c =
    let r = c.import_stream-report in
    let mid = r.new.committer.ingest.now in
    let name = sym r.ensures.since.0 in
    tied (λ after. r.new.committer.lacked ≡ false → after.manifest.fault ≡ None → Follows c.args.ingest.now after) mid _ (search rules)
    (λ had sound. (r.ensures.since.2.keeps_up had sound).follows)

pub returns-clause-drawn : goal.returns-clause-drawn
returns-clause-drawn g c =
    let r = c.import_stream-report in
    let mid = r.new.committer.drawer.now in
    let name = sym r.ensures.since.1 in
    tied (λ after. DrawsFor (most_untold (ending_of r.result.end)) r.result.receipts.items c.args.mine.now after) mid _ (search rules) r.ensures.drawn

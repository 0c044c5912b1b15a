use Rattle.std.proofs.Common.{rules, sym}
use Rattle.ingest_desk.specs.Drawn.{DrawsFor, most_untold}
use Rattle.ingest_desk.specs.Importers.{ending_of}
use Rattle.import_run.proofs.FollowLemmas.{tied}
use Rattle.import_run.proofs.importing.import.Goals as goal

pub returns-clause-drawn : goal.returns-clause-drawn
returns-clause-drawn g c =
    let r = c.import_stream in
    let mid = r.new.committer.drawer.now in
    let name = sym r.ensures.since in
    tied (λ after. DrawsFor (most_untold (ending_of r.result.end)) r.result.receipts.items c.args.mine.now after) mid _ (search rules) r.ensures.drawn

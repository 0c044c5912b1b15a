use Rattle.std.proofs.Common.{rules, sym}
use Rattle.explorer_model.specs.Imports.{groups}
use Rattle.explorer_model.specs.Cuts.{cuts}
use Rattle.explorer_model.specs.Labels.{no_label}
use Rattle.ingest_desk.specs.Drawn.{DrawsFor, most_untold}
use Rattle.ingest_desk.specs.Importers.{ending_of}
use Rattle.import_run.proofs.FollowLemmas.{tied}
use Rattle.import_run.proofs.ComeBesideLemmas.{ends_in_memory, few_games, marked_so}
use Rattle.import_run.proofs.handles.DeskHandleImporter.import.Goals as goal

pub add-requires : goal.add-requires
add-requires g c =
    let r = c.import_bytes-report.ensures.beside.comes.reports in
    marked_so no_label c.import_bytes-report.result.end (groups (cuts c.args.body.now)) r.batches c.import_bytes-report.result.refused.items r.accounts

pub returns-clause-reports : goal.returns-clause-reports
returns-clause-reports g c = c.import_bytes-report.ensures.beside.comes.reports

pub returns-clause-in_memory : goal.returns-clause-in_memory
returns-clause-in_memory g c = ends_in_memory c.args.body.now c.import_bytes-report.result c.requires.few c.import_bytes-report.ensures.beside

pub returns-clause-few : goal.returns-clause-few
returns-clause-few g c = few_games c.args.body.now c.import_bytes-report.result c.requires.few c.import_bytes-report.ensures.beside

pub returns-clause-drawn : goal.returns-clause-drawn
returns-clause-drawn g c =
    let r = c.import_bytes-report in
    let mid = r.new.committer.drawer.now in
    let name = sym r.ensures.since in
    tied (λ after. DrawsFor (most_untold (ending_of r.result.end)) r.result.receipts.items c.args.self.now.drawer after) mid _ (search rules) r.ensures.drawn

use Rattle.std.proofs.Common.{Option, sym, subst}
use Rattle.published_index.specs.States.{Publishing}
use Rattle.ingest_desk.specs.Jobs.{Neighbours}
use Rattle.import_run.specs.declared.merging.Merging.{Merging}
use Rattle.import_run.specs.Upkeep.{Finds, Merges}
use Rattle.import_run.proofs.UpkeepLemmas.{merges_by}
use Rattle.import_run.proofs.merging.merge_due.Goals as goal

pub returns-clause-merges : goal.returns-clause-merges
returns-clause-merges g c =
    let old : Publishing = c.args.ingest.now.index in
    let mid : Publishing = c.next_job.new.ingest.index in
    let new : Publishing = c.install.new.self.index in
    let finds = subst (λ (found : Option Neighbours). Finds found old mid) c.in-Some.is c.in-Ok.ensures.finds in
    let merges = merges_by old mid c.in-Some.job finds new c.in-Ok-merge_job.segment c.install.result c.in-Ok-merge_job.ensures.merges c.merge_job.ensures.left c.install.ensures.installs in
    subst (λ (step : Merging). Merges step old new) (sym c.merging_of.ensures) merges

use Rattle.std.proofs.Common.{Some, ap, sym, ◌∙◌}
use Rattle.ingest_desk.specs.Stored.{journal}
use Rattle.explorer.proofs.CountLemmas.{below_lacking, below_whole, counted_early, if_err}
use Rattle.explorer.proofs.count.count_in.Goals as goal

pub returns-in_ok-fault-in-Some-clause-counted : goal.returns-in_ok-fault-in-Some-clause-counted
returns-in_ok-fault-in-Some-clause-counted g c =
    counted_early c.args.book.now c.args.query.now c.none.result c.none.ensures (journal c.args.ingest.now) (journal c.import_into-came.new.ingest) c.requires.empty (g.D.Disk.disk c.args.ingest.now.manifest.disk) (g.D.Disk.disk c.import_into-came.new.ingest.manifest.disk)
    (g.I.Source.source c.args.input.now) (g.I.Source.source c.import_into-came.new.source) c.import_into-came.result c.import_into-came.ensures
    c.in_ok-fault-in-Some.fault (sym c.fault.ensures ∙ c.in-Some.is ∙ ap Some (sym c.in_ok-fault-in-Some.ensures.same)) c.in_ok-fault-in-Some.ensures.other

pub returns-in_err-fault-in-Some-clause-starves : goal.returns-in_err-fault-in-Some-clause-starves
returns-in_err-fault-in-Some-clause-starves g c =
    if_err c.from_residual.result (below_lacking _ _ _ _ _ _ _ _ c.import_into-came.ensures
    (sym c.fault.ensures ∙ c.in-Some.is ∙ ap Some c.in_err-fault-in-Some.ensures.memory))

pub returns-in_err-line-in-None-clause-starves : goal.returns-in_err-line-in-None-clause-starves
returns-in_err-line-in-None-clause-starves g c =
    if_err c.from_residual-in_err-line-in-None.result (below_whole _ _ _ _ _ _ _ _ c.import_into-came.ensures (sym c.fault.ensures ∙ c.in-None.is))

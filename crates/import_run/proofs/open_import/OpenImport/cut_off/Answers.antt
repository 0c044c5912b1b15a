use Rattle.pgn_cut.specs.Cut.{cuts_in}
use Rattle.pgn_cut.specs.Cutter.{cuts_of_rest}
use Rattle.import_run.proofs.ComeBesideLemmas.{cut_off_beside}
use Rattle.import_run.proofs.ComeLemmas.{whole_settled}
use Rattle.import_run.proofs.CutLemmas.{one_cut}
use Rattle.import_run.proofs.open_import.OpenImport.cut_off.Goals as goal

pub returns-clause-settled : goal.returns-clause-settled
returns-clause-settled g c = λ start stream told so_far.
    whole_settled start stream (cuts_of_rest c.args.cutter) (cuts_in c.end-begun.result) c.args.self told _ _ c.end-begun.ensures (one_cut c.end-begun.result) c.requires so_far
    c.report.ensures.receipts c.report.ensures.refused

pub returns-clause-beside : goal.returns-clause-beside
returns-clause-beside g c = λ start stream told so_far.
    cut_off_beside start stream (cuts_of_rest c.args.cutter) (cuts_in c.end-begun.result) c.args.self told c.report.result c.end-begun.ensures (one_cut c.end-begun.result) c.requires so_far
    c.report.ensures.receipts c.report.ensures.refused c.report.ensures.clashes

use Rattle.std.proofs.Common.{Some, ◌++◌, List, ap, ◌∙◌, length, arith, subst, sym}
use Rattle.explorer_model.specs.declared.fault.Refusal.{Refusal}
use Rattle.import_run.specs.Committing.{store_of}
use Rattle.import_run.specs.Importing.{EndsEarly}
use Rattle.import_run.proofs.ComeBesideLemmas.{stopped_in_beside}
use Rattle.import_run.proofs.ComeLemmas.{stopped_in}
use Rattle.import_run.proofs.DrawLemmas.{draws-same}
use Rattle.import_run.proofs.TakingLemmas.{stops_room}
use Rattle.import_run.proofs.open_import.OpenImport.report_stop.Goals as goal

pub returns-in-Ok-clause-comes : goal.returns-in-Ok-clause-comes
returns-in-Ok-clause-comes g c = λ start stream left told below stops.
    stopped_in start c.report.result stream left told c.args.self c.args.stopped c.report.ensures.end c.report.ensures.receipts
    (c.report.ensures.refused ∙ c.in-Ok.ensures.items ∙ ap (λ (l : List Refusal). c.args.self.refused.items ++ l) c.as_slice.ensures.value) below stops

pub returns-in-Err-clause-comes : goal.returns-in-Err-clause-comes
returns-in-Err-clause-comes g c = λ start stream left told below stops.
    absurd (omega (arith, stops_room (Some (store_of start)) stream left c.args.self c.args.stopped told stops, c.in-Err.ensures.full, ap length c.as_slice.ensures.value))

pub returns-in-Ok-clause-beside : goal.returns-in-Ok-clause-beside
returns-in-Ok-clause-beside g c = λ start stream left told below stops.
    stopped_in_beside stream left c.report.result c.args.self c.report.ensures.receipts c.report.ensures.clashes below start c.args.stopped told c.report.ensures.end
    (c.report.ensures.refused ∙ c.in-Ok.ensures.items ∙ ap (λ (l : List Refusal). c.args.self.refused.items ++ l) c.as_slice.ensures.value) stops

pub returns-in-Err-clause-beside : goal.returns-in-Err-clause-beside
returns-in-Err-clause-beside g c = λ start stream left told below stops.
    absurd (omega (arith, stops_room start stream left c.args.self c.args.stopped told stops, c.in-Err.ensures.full, ap length c.as_slice.ensures.value))

pub returns-in-Ok-clause-drawn : goal.returns-in-Ok-clause-drawn
returns-in-Ok-clause-drawn g c = λ before after h. draws-same _ c.args.self.receipts.items _ before after c.report.ensures.receipts h

pub returns-in-Err-clause-drawn : goal.returns-in-Err-clause-drawn
returns-in-Err-clause-drawn g c = λ before after h. draws-same _ c.args.self.receipts.items _ before after c.report-in-Err.ensures.receipts h

pub returns-in-Ok-clause-early : goal.returns-in-Ok-clause-early
returns-in-Ok-clause-early g c = λ early. subst (λ e. EndsEarly e) (sym c.report.ensures.end) early

pub returns-in-Err-clause-early : goal.returns-in-Err-clause-early
returns-in-Err-clause-early g c = λ early. subst (λ e. EndsEarly e) (sym c.report-in-Err.ensures.end) tt

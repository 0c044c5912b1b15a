use Rattle.std.proofs.Common.{[], inr, ◌++◌, ◌∙◌, List, Some, subst}
use Rattle.std.proofs.lemmas.List.{append-nil}
use Rattle.explorer_model.specs.Cuts.{Cut}
use Rattle.pgn_cut.specs.Cut.{cuts_in}
use Rattle.pgn_cut.specs.Cutter.{cuts_of_rest}
use Rattle.import_run.specs.Committing.{store_of}
use Rattle.import_run.specs.Taking.{LacksAtEnd, StopsAtEnd, TakenAll}
use Rattle.import_run.proofs.LabelLemmas.{quietly_as, quietly_beside_as}
use Rattle.import_run.proofs.ComeBesideLemmas.{lacking_at_end_beside, whole_beside}
use Rattle.import_run.proofs.ComeLemmas.{comes_whole, lacking_at_end}
use Rattle.import_run.proofs.CutLemmas.{whole_cuts}
use Rattle.import_run.proofs.PlaceLemmas.{ascend_of_stream}
use Rattle.import_run.proofs.ShortLemmas.{short_first}
use Rattle.import_run.proofs.DrawLemmas.{draws-same, draws-told}
use Rattle.import_run.proofs.open_import.OpenImport.end.Goals as goal

pub finish-requires-clause-short : goal.finish-requires-clause-short
finish-requires-clause-short g c = λ κs within. short_first c.end.result c.args.cutter [] [] (append-nil (cuts_in c.end.result) ∙ c.end.ensures)

pub returns-in-Ok-clause-comes : goal.returns-in-Ok-clause-comes
returns-in-Ok-clause-comes g c = λ start stream left at_end below so_far.
    let taken = so_far.taken ++ cuts_in c.end.result in
    let all = whole_cuts stream (cuts_of_rest c.args.cutter) so_far.taken (cuts_in c.end.result) so_far.cut c.end.ensures in
    quietly_as c.finish.ensures.label
    (comes_whole start c.report.result stream left (g.C.Committer.told c.finish.new.committer) c.finish.new.self c.report.ensures.end c.report.ensures.receipts c.report.ensures.refused at_end below taken all
    (c.in-Ok.ensures.taken (Some (store_of start)) so_far.taken (ascend_of_stream so_far.taken (cuts_in c.end.result) stream all) so_far.so_far))

pub returns-in-Err-Fault-clause-comes : goal.returns-in-Err-Fault-clause-comes
returns-in-Err-Fault-clause-comes g c = λ start stream left at_end below so_far.
    let told = g.C.Committer.told c.finish.new.committer in
    let all = whole_cuts stream (cuts_of_rest c.args.cutter) so_far.taken (cuts_in c.end.result) so_far.cut c.end.ensures in
    let stops : StopsAtEnd (Some (store_of start)) (so_far.taken ++ cuts_in c.end.result) c.finish.new.self c.in-Err-Fault.stopped told =
    (rw c.in-Err-Fault.field-0-is at c.in-Err-Fault.ensures.taken) (Some (store_of start)) so_far.taken (ascend_of_stream so_far.taken (cuts_in c.end.result) stream all) so_far.so_far in
    quietly_as c.finish.ensures.label
    (c.report_stop.ensures.comes start stream left told below (inr (at_end, subst (λ (l : List Cut). StopsAtEnd (Some (store_of start)) l c.finish.new.self c.in-Err-Fault.stopped told) all stops)))

pub returns-in-Err-OutOfMemory-clause-comes : goal.returns-in-Err-OutOfMemory-clause-comes
returns-in-Err-OutOfMemory-clause-comes g c = λ start stream left at_end below so_far.
    let told = g.C.Committer.told c.finish.new.committer in
    let all = whole_cuts stream (cuts_of_rest c.args.cutter) so_far.taken (cuts_in c.end.result) so_far.cut c.end.ensures in
    let lacks : LacksAtEnd (Some (store_of start)) (so_far.taken ++ cuts_in c.end.result) c.finish.new.self told =
    (rw c.in-Err-OutOfMemory.field-0-is at c.in-Err-OutOfMemory.ensures.taken) (Some (store_of start)) so_far.taken (ascend_of_stream so_far.taken (cuts_in c.end.result) stream all) so_far.so_far in
    quietly_as c.finish.ensures.label
    (lacking_at_end start c.report-in-Err-OutOfMemory.result stream left told c.finish.new.self c.report-in-Err-OutOfMemory.ensures.end c.report-in-Err-OutOfMemory.ensures.receipts c.report-in-Err-OutOfMemory.ensures.refused below at_end _ all lacks)

pub returns-in-Ok-clause-beside : goal.returns-in-Ok-clause-beside
returns-in-Ok-clause-beside g c = λ start stream left at_end below so_far.
    let told = g.C.Committer.told c.finish.new.committer in
    let all = whole_cuts stream (cuts_of_rest c.args.cutter) so_far.taken (cuts_in c.end.result) so_far.cut c.end.ensures in
    let done = c.in-Ok.ensures.taken start so_far.taken (ascend_of_stream so_far.taken (cuts_in c.end.result) stream all) so_far.so_far in
    quietly_beside_as c.finish.ensures.label
    (whole_beside stream left c.report.result c.finish.new.self c.report.ensures.receipts c.report.ensures.clashes below c.report.ensures.refused start told c.report.ensures.end at_end
    (subst (λ (l : List Cut). TakenAll start l c.finish.new.self told) all done))

pub returns-in-Err-Fault-clause-beside : goal.returns-in-Err-Fault-clause-beside
returns-in-Err-Fault-clause-beside g c = λ start stream left at_end below so_far.
    let told = g.C.Committer.told c.finish.new.committer in
    let all = whole_cuts stream (cuts_of_rest c.args.cutter) so_far.taken (cuts_in c.end.result) so_far.cut c.end.ensures in
    let stops : StopsAtEnd start (so_far.taken ++ cuts_in c.end.result) c.finish.new.self c.in-Err-Fault.stopped told =
    (rw c.in-Err-Fault.field-0-is at c.in-Err-Fault.ensures.taken) start so_far.taken (ascend_of_stream so_far.taken (cuts_in c.end.result) stream all) so_far.so_far in
    quietly_beside_as c.finish.ensures.label
    (c.report_stop.ensures.beside start stream left told below (inr (at_end, subst (λ (l : List Cut). StopsAtEnd start l c.finish.new.self c.in-Err-Fault.stopped told) all stops)))

pub returns-in-Err-OutOfMemory-clause-beside : goal.returns-in-Err-OutOfMemory-clause-beside
returns-in-Err-OutOfMemory-clause-beside g c = λ start stream left at_end below so_far.
    let told = g.C.Committer.told c.finish.new.committer in
    let all = whole_cuts stream (cuts_of_rest c.args.cutter) so_far.taken (cuts_in c.end.result) so_far.cut c.end.ensures in
    let lacks : LacksAtEnd start (so_far.taken ++ cuts_in c.end.result) c.finish.new.self told =
    (rw c.in-Err-OutOfMemory.field-0-is at c.in-Err-OutOfMemory.ensures.taken) start so_far.taken (ascend_of_stream so_far.taken (cuts_in c.end.result) stream all) so_far.so_far in
    quietly_beside_as c.finish.ensures.label
    (lacking_at_end_beside stream left c.report-in-Err-OutOfMemory.result c.finish.new.self c.report-in-Err-OutOfMemory.ensures.receipts c.report-in-Err-OutOfMemory.ensures.clashes below c.report-in-Err-OutOfMemory.ensures.refused start told c.report-in-Err-OutOfMemory.ensures.end at_end
    (subst (λ (l : List Cut). LacksAtEnd start l c.finish.new.self told) all lacks))

pub returns-in-Ok-clause-drawn : goal.returns-in-Ok-clause-drawn
returns-in-Ok-clause-drawn g c = λ before h. draws-same _ _ _ before _ c.report.ensures.receipts (c.in-Ok.ensures.drawn before h)

pub returns-in-Err-Fault-clause-drawn : goal.returns-in-Err-Fault-clause-drawn
returns-in-Err-Fault-clause-drawn g c = λ before h.
    c.report_stop.ensures.drawn before _ ((rw c.in-Err-Fault.field-0-is at c.in-Err-Fault.ensures.drawn) before h)

pub returns-in-Err-OutOfMemory-clause-drawn : goal.returns-in-Err-OutOfMemory-clause-drawn
returns-in-Err-OutOfMemory-clause-drawn g c = λ before h.
    draws-told c.report-in-Err-OutOfMemory.result _ before _ c.report-in-Err-OutOfMemory.ensures.end c.report-in-Err-OutOfMemory.ensures.receipts
    ((rw c.in-Err-OutOfMemory.field-0-is at c.in-Err-OutOfMemory.ensures.drawn) before h)

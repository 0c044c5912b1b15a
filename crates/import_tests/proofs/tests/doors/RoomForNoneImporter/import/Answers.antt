use Rattle.std.proofs.Common.{◌≡◌, ◌∙◌, sym}
use Rattle.plain_laws.specs.Lists.{length-zero}
use Rattle.import_tests.proofs.NoReports.{draws-nothing, reports-empty, reports-nothing}
use Rattle.import_tests.proofs.tests.doors.RoomForNoneImporter.import.Goals as goal

pub returns-then-is_empty-clause-reports : goal.returns-then-is_empty-clause-reports
returns-then-is_empty-clause-reports g c =
    let r = c.report_of.ensures in
    let empty = length-zero c.args.body.now (sym c.is_empty.ensures ∙ c.if-is_empty.true) in
    reports-empty c.args.body.now c.report_of.result empty r.receipts r.refused r.end

pub returns-clause-reports : goal.returns-clause-reports
returns-clause-reports g c =
    let r = c.report_of-2.ensures in
    reports-nothing c.args.body.now c.report_of-2.result r.receipts r.refused r.end

pub returns-then-is_empty-clause-drawn : goal.returns-then-is_empty-clause-drawn
returns-then-is_empty-clause-drawn g c =
    draws-nothing _ c.report_of.result.receipts.items c.report_of.ensures.receipts

pub returns-clause-drawn : goal.returns-clause-drawn
returns-clause-drawn g c = draws-nothing _ c.report_of-2.result.receipts.items c.report_of-2.ensures.receipts

use Rattle.spill_blobs.specs.Sets.{journal_of}
use Rattle.explorer.proofs.ImportEndLemmas.{opens_to}
use Rattle.explorer.proofs.QueryLemmas.Spilled.{not_spilled, spilled_to}
use Rattle.explorer.proofs.query.spilled.spill_at.Goals as goal

pub returns-in-Ok-clause-spills : goal.returns-in-Ok-clause-spills
returns-in-Ok-clause-spills g c =
    let ok = c.in-Ok.ensures in
    let opens = opens_to g.D.Disk.disk g.D.Disk.left_since c.args.disk c.in-Ok.disk ok.quiet (journal_of c.in-Ok.set) ok.read ok.sound ok.no_fault in
    spilled_to c.args.book.now c.args.query.now (g.D.Disk.disk c.args.disk) (g.D.Disk.disk c.in-Ok.disk) (g.P.Port.port c.args.port.now) (g.P.Port.port c.open_spilled.new.port)
    (g.P.Port.port c.line_by.new.port) c.in-Ok.set opens ok.parts ok.written ok.port_faults c.line_by.result c.line_by.ensures

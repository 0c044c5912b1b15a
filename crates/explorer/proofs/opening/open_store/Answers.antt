use Rattle.explorer.proofs.ImportEndLemmas.{opens_to, refused_by}
use Rattle.explorer.proofs.StoreLemmas.{is_sized}
use Rattle.explorer.proofs.opening.open_store.Goals as goal

pub returns-in-Ok-clause-sized : goal.returns-in-Ok-clause-sized
returns-in-Ok-clause-sized g c = is_sized g.D.Disk.disk g.met.D.Disk.told_size c.args.disk

pub returns-in-Ok-clause-opened : goal.returns-in-Ok-clause-opened
returns-in-Ok-clause-opened g c = opens_to g.D.Disk.disk g.D.Disk.left_since c.args.disk _ c.in-Ok.ensures.quiet _ c.in-Ok.ensures.read c.in-Ok.ensures.recounted c.in-Ok.ensures.no_fault

pub returns-in-Err-clause-sized : goal.returns-in-Err-clause-sized
returns-in-Err-clause-sized g c = is_sized g.D.Disk.disk g.met.D.Disk.told_size c.args.disk

pub returns-in-Err-clause-refused : goal.returns-in-Err-clause-refused
returns-in-Err-clause-refused g c =
    let cause = rw c.faults-before.ensures at c.first_cause.ensures.cause in
    rw c.first_cause.ensures.disk (refused_by g.D.Disk.disk g.D.Disk.left_since c.args.disk c.in-Err.back.disk c.in-Err.ensures.quiet_refused c.in-Err.back.fault _ c.in-Err.ensures.refused cause)

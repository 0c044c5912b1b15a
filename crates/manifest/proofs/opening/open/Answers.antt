use Rattle.std.proofs.lemmas.Result.{err_from_is_err_and}
use Rattle.manifest.proofs.OpeningLemmas.{not-opened, opened-by, refused-by}
use Rattle.manifest.proofs.opening.open.Goals as goal

pub returns-in_err-log-clause-refused : goal.returns-in_err-log-clause-refused
returns-in_err-log-clause-refused g c =
    let p = err_from_is_err_and c.from_residual.result c.from_residual.ensures.1 in
    rw (p.1, p.2)
    (not-opened g.D.Disk.disk c.in_err-log.field-0.0.fault c.args.disk c.in_err-log.field-0.0.disk c.in_err-log.ensures.refused)

pub returns-in-Ok-clause-opened : goal.returns-in-Ok-clause-opened
returns-in-Ok-clause-opened g c =
    opened-by g.D.Disk.disk g.D.Disk.left_since c.in_ok-log.field-0.payloads.items c.args.disk c.in_ok-log.field-0.log
    c.in_ok-log.ensures.opened c.in-Ok.journal.items c.in-Ok.ensures.read c.in-Ok.ensures.storable c.in-Ok.ensures.payloads

pub returns-in-Err-clause-refused : goal.returns-in-Err-clause-refused
returns-in-Err-clause-refused g c =
    rw c.fault_of-fault.ensures
    (refused-by g.D.Disk.disk g.D.Disk.left_since c.in_ok-log.field-0.payloads.items c.args.disk c.in_ok-log.field-0.log
    c.in_ok-log.ensures.opened c.in-Err.stop c.into_disk-disk.result c.in-Err.ensures.read)

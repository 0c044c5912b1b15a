use Rattle.explorer.proofs.MigrateLemmas.{all_storable, not_read, reads_first}
use Rattle.explorer.proofs.StoreLemmas.{is_sized}
use Rattle.explorer.proofs.migrate.read_first.Goals as goal

pub returns-in-Ok-clause-sized : goal.returns-in-Ok-clause-sized
returns-in-Ok-clause-sized g c = is_sized g.D.Disk.disk g.met.D.Disk.told_size c.args.disk

pub returns-in-Ok-clause-storable : goal.returns-in-Ok-clause-storable
returns-in-Ok-clause-storable g c = all_storable c.in-Ok.opened.journal.items c.in-Ok.ensures.bare

pub returns-in-Ok-clause-reads : goal.returns-in-Ok-clause-reads
returns-in-Ok-clause-reads g c =
    reads_first g.D.Disk.disk g.D.Disk.left_since c.args.disk c.in-Ok.opened.disk c.in-Ok.ensures.quiet c.in-Ok.opened.journal.items c.in-Ok.ensures.read c.in-Ok.ensures.within c.in-Ok.ensures.no_fault

pub returns-in-Err-clause-sized : goal.returns-in-Err-clause-sized
returns-in-Err-clause-sized g c = is_sized g.D.Disk.disk g.met.D.Disk.told_size c.args.disk

pub returns-in-Err-clause-reads : goal.returns-in-Err-clause-reads
returns-in-Err-clause-reads g c =
    let cause = rw c.faults-before.ensures at c.first_cause.ensures.cause in
    rw c.first_cause.ensures.disk (not_read g.D.Disk.disk g.D.Disk.left_since c.args.disk c.in-Err.back.disk c.in-Err.ensures.quiet_refused c.in-Err.back.fault _ c.in-Err.ensures.refused cause)

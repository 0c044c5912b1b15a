use Rattle.std.proofs.Common.{refl, arith}
use Rattle.import_run.proofs.CountLemmas.{adds_closed, adds_disk_fault}
use Rattle.import_run.proofs.ends.EndCounts.add.Goals as goal

pub returns-in-DiskFault : goal.returns-in-DiskFault
returns-in-DiskFault g c =
    let x = c.in-DiskFault in
    adds_disk_fault c.args.self.now _ refl c.args.end.now x.before x.after x.mark x.is c.requires c.add.ensures
    (omega (arith, c.disk_faults-before.ensures, c.disk_faults-before.type_inv))

pub returns-in-Closed : goal.returns-in-Closed
returns-in-Closed g c =
    let x = c.in-Closed in
    adds_closed c.args.self.now _ refl c.args.end.now x.before x.after x.mark x.is c.requires c.add-in-Closed.ensures
    (omega (arith, c.closed_stores-before.ensures, c.closed_stores-before.type_inv))

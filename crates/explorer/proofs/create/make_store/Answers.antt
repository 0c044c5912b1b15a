use Rattle.explorer.proofs.StoreLemmas.{is_sized, made_by, not_made}
use Rattle.explorer.proofs.create.make_store.Goals as goal

pub returns-in-Ok-clause-sized : goal.returns-in-Ok-clause-sized
returns-in-Ok-clause-sized g c = is_sized g.D.Disk.disk g.met.D.Disk.told_size c.args.disk

pub returns-in-Ok-clause-made : goal.returns-in-Ok-clause-made
returns-in-Ok-clause-made g c =
    made_by g.D.Disk.disk g.D.Disk.left_since g.met.D.Disk.told_left c.args.disk c.into_disk.result c.in-Ok.made c.in-Ok.ensures.created c.in-Ok.ensures.no_fault c.into_disk.ensures

pub returns-in-Err-clause-sized : goal.returns-in-Err-clause-sized
returns-in-Err-clause-sized g c = is_sized g.D.Disk.disk g.met.D.Disk.told_size c.args.disk

pub returns-in-Err-clause-made : goal.returns-in-Err-clause-made
returns-in-Err-clause-made g c = not_made g.D.Disk.disk c.in-Err.back.fault c.args.disk c.in-Err.back.disk c.in-Err.ensures.refused

use Rattle.explorer.proofs.ServeLemmas.{longer-by}
use Rattle.explorer.proofs.serve.disk_of.Goals as goal

pub returns-clause-tells : goal.returns-clause-tells
returns-clause-tells g c =
    longer-by g.D.Disk.disk g.D.Disk.left_since c.args.ingest c.into_disk.result g.met.D.Disk.told_left c.into_disk.ensures
    c.batches-batches.ensures.sound c.batches-batches.ensures.keeps

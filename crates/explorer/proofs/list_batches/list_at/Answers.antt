use Rattle.explorer.proofs.ListLemmas.{opened}
use Rattle.explorer.proofs.list_batches.list_at.Goals as goal

pub returns-in-Ok-clause-lists : goal.returns-in-Ok-clause-lists
returns-in-Ok-clause-lists g c =
    opened g.D.Disk.disk (g.D.Disk.disk c.args.disk) _ c.list_in.result.disk _ c.list_in.ensures.disk c.in-Ok.ensures.opened c.list_in.result.lines c.list_in.ensures.lines

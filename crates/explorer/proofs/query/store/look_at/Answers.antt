use Rattle.explorer.proofs.QueryLemmas.{opened}
use Rattle.explorer.proofs.query.store.look_at.Goals as goal

pub returns-in-Ok-clause-looks : goal.returns-in-Ok-clause-looks
returns-in-Ok-clause-looks g c =
    opened g.D.Disk.disk c.args.book.now c.args.query.now (g.D.Disk.disk c.args.disk) _ c.look_in.result.disk _ c.look_in.ensures.disk c.in-Ok.ensures.opened c.look_in.result.line c.look_in.ensures.line

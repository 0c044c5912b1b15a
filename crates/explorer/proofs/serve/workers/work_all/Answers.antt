use Rattle.std.proofs.Common.{◌≡◌, List, length, sym, subst, ◌∙◌}
use Rattle.std.specs.List.{AllZip}
use Rattle.std.proofs.lemmas.Slice.Zip.{AllZip-long}
use Rattle.explorer.specs.declared.serve.workers.Worker.{Worker}
use Rattle.explorer.specs.Serve.Workers.{Works}
use Rattle.explorer.proofs.ServeLemmas.WorkerLists.{take-whole}
use Rattle.explorer.proofs.serve.workers.work_all.Goals as goal

pub returns : goal.returns
returns g c =
    let all = subst (λ (ws : List (Worker g.row.F.Denot g.row.G.Denot g.row.J.Denot)). AllZip (Works c.args.order.now.book g.F.Source.source g.G.Door.door) ws c.work_each.new.list)
    c.as_mut_slice.ensures.value c.work_each.ensures in
    let even : c.args.list.len ≡ length c.work_each.new.list = c.args.list.ok.0 ∙ sym (AllZip-long _ _ _ all) in
    rw (take-whole c.args.list.len c.work_each.new.list _ even) all

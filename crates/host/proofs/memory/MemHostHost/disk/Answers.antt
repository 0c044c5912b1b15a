use Rattle.std.proofs.Common.{◌≡◌, subst}
use Rattle.host.specs.Hosts.{DiskRefused, RefusesDisk}
use Rattle.host.specs.Memory.{MemoryHost, host_of}
use Rattle.host.proofs.Keeping.{is_refused}
use Rattle.host.proofs.memory.MemHostHost.disk.Goals as goal

pub refuse-requires : goal.refuse-requires
refuse-requires c = (DiskRefused c.args.name.now, c.disk_refused.ensures)

pub returns-in-None-clause-refuses : goal.returns-in-None-clause-refuses
returns-in-None-clause-refuses c =
    let r = is_refused _ _ (DiskRefused c.args.name.now) c.disk_refused.result c.disk_refused.ensures c.refuse-in-None.ensures.rises c.refuse-in-None.ensures.calls c.refuse-in-None.ensures.rest in
    let e : c.lend_disk.new.self ≡ c.args.self.now = c.in-None.ensures in
    subst (λ (m : MemoryHost). RefusesDisk c.args.name.now (host_of m) (host_of c.refuse-in-None.new.self)) e
    (record { rises = r.rises; calls = r.calls; rest = r.rest })

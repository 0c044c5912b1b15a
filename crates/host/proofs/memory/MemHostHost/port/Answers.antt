use Rattle.std.proofs.Common.{◌≡◌, subst}
use Rattle.host.specs.Hosts.{PortRefused, RefusesPort}
use Rattle.host.specs.Memory.{MemoryHost, host_of}
use Rattle.host.proofs.Keeping.{is_refused}
use Rattle.host.proofs.memory.MemHostHost.port.Goals as goal

pub refuse-requires : goal.refuse-requires
refuse-requires c = (PortRefused c.args.name.now, c.port_refused.ensures)

pub returns-in-None-clause-refuses : goal.returns-in-None-clause-refuses
returns-in-None-clause-refuses c =
    let r = is_refused _ _ (PortRefused c.args.name.now) c.port_refused.result c.port_refused.ensures c.refuse-in-None.ensures.rises c.refuse-in-None.ensures.calls c.refuse-in-None.ensures.rest in
    let e : c.lend_port.new.self ≡ c.args.self.now = c.in-None.ensures in
    subst (λ (m : MemoryHost). RefusesPort c.args.name.now (host_of m) (host_of c.refuse-in-None.new.self)) e
    (record { rises = r.rises; calls = r.calls; rest = r.rest })

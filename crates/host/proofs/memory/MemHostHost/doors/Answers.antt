use Rattle.std.proofs.Common.{◌≡◌, subst}
use Rattle.host.specs.Hosts.{DoorsRefused, RefusesDoors}
use Rattle.host.specs.Memory.{MemoryHost, host_of}
use Rattle.host.proofs.Keeping.{is_refused}
use Rattle.host.proofs.memory.MemHostHost.doors.Goals as goal

pub refuse-requires : goal.refuse-requires
refuse-requires c = (DoorsRefused c.args.address.now c.args.readers c.args.connections, c.doors_refused-call.ensures)

pub returns-in-Ok-None-clause-fails : goal.returns-in-Ok-None-clause-fails
returns-in-Ok-None-clause-fails c =
    let r = is_refused _ _ (DoorsRefused c.args.address.now c.args.readers c.args.connections) c.doors_refused-call.result c.doors_refused-call.ensures c.refuse.ensures.rises c.refuse.ensures.calls c.refuse.ensures.rest in
    let e : c.lend_doors.new.self ≡ c.args.self.now = rw c.in-Ok-None.field-0-is at c.in-Ok-None.ensures in
    subst (λ (m : MemoryHost). RefusesDoors c.args.address.now c.args.readers c.args.connections (host_of m) (host_of c.refuse.new.self)) e
    (record { rises = r.rises; calls = r.calls; rest = r.rest })

pub returns-in-Err-clause-fails : goal.returns-in-Err-clause-fails
returns-in-Err-clause-fails c = c.in-Err.ensures

use Rattle.std.proofs.Common.{◌≡◌, ◌≤◌, ◌+◌, ◌-◌, ◌++◌, ◌∷◌, [], Some, rules, arith, refl, vec_len, vec_capacity}
use Rattle.host.specs.Hosts.{APort, Counts}
use Rattle.host.specs.Memory.{place_in, stock}
use Rattle.host.specs.declared.memory.MemCall.TheVariants.{PortBack}
use Rattle.host.proofs.Keeping.{out_before, some_out_before}
use Rattle.host.proofs.Ports.{kept_port_returned, takes_port}
use Rattle.host.proofs.memory.MemHostHost.close_port.Goals as goal

pub push_reserved-requires : goal.push_reserved-requires
push_reserved-requires c = omega (arith, some_out_before (APort c.args.name.now) _ _ c.self.view_is c.requires _ _ _ c.self.invariant, c.self.invariant.room)

pub overflow_sub-self : goal.overflow_sub-self
overflow_sub-self c = omega (arith, some_out_before (APort c.args.name.now) _ _ c.self.view_is c.requires _ _ _ c.self.invariant)

pub invariant_of-self : goal.invariant_of-self
invariant_of-self c =
    let h = c.self.inside in
    let s = stock h.disks.items h.files.items h.addresses.items h.ports.items in
    let some = out_before (APort c.args.name.now) _ _ c.self.view_is c.requires in
    let more = some_out_before (APort c.args.name.now) _ _ c.self.view_is c.requires _ _ _ c.self.invariant in
    let items : c.push_reserved.new.self.items ≡ h.calls.items ++ PortBack c.in-Some.place ∷ [] = search rules in
    let fits : vec_len c.push_reserved.new.self + (h.out - 1) ≤ vec_capacity c.push_reserved.new.self =
    omega (arith, more, c.self.invariant.room, c.push_reserved.ensures.len, c.push_reserved.ensures.capacity) in
    let at : place_in c.args.name.now h.ports.items ≡ Some c.in-Some.place = search rules in
    kept_port_returned s h.calls.items _ h.out (vec_len h.calls) (vec_capacity h.calls) _ _ c.in-Some.place c.args.name.now c.index_mut.result.now (record { name = c.index_mut.result.now.name; it = Some c.args.port }) c.self.invariant c.index_mut.ensures.value refl at items some fits

pub returns : goal.returns
returns c =
    let h = c.self.inside in
    let s = stock h.disks.items h.files.items h.addresses.items h.ports.items in
    let at : place_in c.args.name.now h.ports.items ≡ Some c.in-Some.place = search rules in
    let items : c.push_reserved.new.self.items ≡ h.calls.items ++ PortBack c.in-Some.place ∷ [] = search rules in
    let counts : Counts c.args.port.faults h.port_faults c.count_return.new.count = record { rises = search rules; same = search rules } in
    rw (← c.self.view_is) (takes_port s h.calls.items c.push_reserved.new.self.items
    (record { own = h.own_faults; disks = h.disk_faults; files = h.file_faults; doors = h.door_faults; ports = h.port_faults })
    (record { own = h.own_faults; disks = h.disk_faults; files = h.file_faults; doors = h.door_faults; ports = c.count_return.new.count })
    c.in-Some.place c.args.name.now c.index_mut.result.now (record { name = c.index_mut.result.now.name; it = Some c.args.port })
    c.args.port c.index_mut.ensures.value refl refl at items counts refl)

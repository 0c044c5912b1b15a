use Rattle.std.proofs.Common.{◌≡◌, ◌≤◌, ◌+◌, ◌++◌, ◌∷◌, [], Some, rules, refl, ap, vec_len, vec_capacity}
use Rattle.host.specs.Memory.{calls_of, place_in, stock}
use Rattle.host.specs.declared.memory.MemCall.TheVariants.{PortOut}
use Rattle.host.proofs.Keeping.{calls_of-ports, kept_ports, kept_room}
use Rattle.host.proofs.Ports.{hands_port, kept_port_lent}
use Rattle.host.proofs.memory.MemHost.lend_port.Goals as goal

pub invariant_of-self-in_err-port : goal.invariant_of-self-in_err-port
invariant_of-self-in_err-port c =
    let h = c.self.inside in
    let s = stock h.disks.items h.files.items h.addresses.items h.ports.items in
    let e = calls_of-ports s h.calls.items c.in_ok-place.place (record { name = c.index_mut.result.now.name; it = c.take_ready_port.new.port }) c.index_mut.result.now (ap (λ (x : _). x.name) c.index_mut.ensures.value) in
    let fits : vec_len c.make_room.new.calls + h.out ≤ vec_capacity c.make_room.new.calls = search rules in
    rw (c.make_room.ensures.items, e) (kept_ports s (calls_of s h.calls.items) h.out _ _ c.in_ok-place.place _ c.index_mut.result.now (ap (λ (x : _). x.name) c.index_mut.ensures.value)
    (kept_room s (calls_of s h.calls.items) h.out (vec_len h.calls) (vec_capacity h.calls) _ _ c.self.invariant fits))

pub invariant_of-self-2 : goal.invariant_of-self-2
invariant_of-self-2 c =
    let h = c.self.inside in
    let s = stock h.disks.items h.files.items h.addresses.items h.ports.items in
    let at : place_in c.args.name.now h.ports.items ≡ Some c.in_ok-place.place = search rules in
    let items : c.push_reserved.new.self.items ≡ h.calls.items ++ PortOut c.in_ok-place.place ∷ [] = search rules in
    let fits : vec_len c.push_reserved.new.self + (h.out + 1) ≤ vec_capacity c.push_reserved.new.self = search rules in
    kept_port_lent s h.calls.items c.push_reserved.new.self.items h.out (vec_len h.calls) (vec_capacity h.calls) _ _
    c.in_ok-place.place c.args.name.now c.index_mut.result.now (record { name = c.index_mut.result.now.name; it = c.take_ready_port.new.port })
    c.self.invariant c.index_mut.ensures.value refl at items fits

pub returns : goal.returns
returns c =
    let h = c.self.inside in
    let s = stock h.disks.items h.files.items h.addresses.items h.ports.items in
    let at : place_in c.args.name.now h.ports.items ≡ Some c.in_ok-place.place = search rules in
    let items : c.push_reserved.new.self.items ≡ h.calls.items ++ PortOut c.in_ok-place.place ∷ [] = search rules in
    let taken = c.in_ok-port.ensures in
    rw (← c.self.view_is) (hands_port s h.calls.items c.push_reserved.new.self.items
    (record { own = h.own_faults; disks = h.disk_faults; files = h.file_faults; doors = h.door_faults; ports = h.port_faults })
    c.in_ok-place.place c.args.name.now c.index_mut.result.now (record { name = c.index_mut.result.now.name; it = c.take_ready_port.new.port })
    c.in_ok-port.port c.clear.new.self c.index_mut.ensures.value refl taken.0 taken.1 taken.2 c.clear.ensures at items)

use Rattle.std.proofs.Common.{◌≡◌, ◌≤◌, ◌+◌, ◌++◌, ◌∷◌, [], Some, rules, arith, refl, ap, vec_len, vec_capacity}
use Rattle.host.specs.Memory.{calls_of, place_in, stock}
use Rattle.host.specs.declared.memory.MemCall.TheVariants.{DoorsOut}
use Rattle.host.proofs.Keeping.{calls_of-addresses, kept_addresses, kept_room}
use Rattle.host.proofs.Lending.{hands_doors, kept_doors_lent, lost_links}
use Rattle.host.proofs.memory.MemHost.lend_doors.Goals as goal

pub invariant_of-self-in_default-take : goal.invariant_of-self-in_default-take
invariant_of-self-in_default-take c =
    let h = c.self.inside in
    let s = stock h.disks.items h.files.items h.addresses.items h.ports.items in
    let same = ap (λ (x : _). x.name) c.index_mut.ensures.value in
    let e = calls_of-addresses s h.calls.items c.in-Some.place (record { name = c.index_mut.result.now.name; it = c.take.new.self }) c.index_mut.result.now same in
    let fits : vec_len c.make_room.new.calls + h.out ≤ vec_capacity c.make_room.new.calls = omega (arith, c.make_room.ensures.size, c.make_room.ensures.kept, c.self.invariant.room) in
    rw (c.make_room.ensures.items, e) (kept_addresses s (calls_of s h.calls.items) h.out _ _ _
    (kept_room s (calls_of s h.calls.items) h.out (vec_len h.calls) (vec_capacity h.calls) _ _ c.self.invariant fits))

pub invariant_of-self-in_default-doors_of : goal.invariant_of-self-in_default-doors_of
invariant_of-self-in_default-doors_of c =
    let h = c.self.inside in
    let s = stock h.disks.items h.files.items h.addresses.items h.ports.items in
    let same = ap (λ (x : _). x.name) c.index_mut.ensures.value in
    let e = calls_of-addresses s h.calls.items c.in-Some.place (record { name = c.index_mut.result.now.name; it = c.take.new.self }) c.index_mut.result.now same in
    let fits : vec_len c.make_room.new.calls + h.out ≤ vec_capacity c.make_room.new.calls = omega (arith, c.make_room.ensures.size, c.make_room.ensures.kept, c.self.invariant.room) in
    rw (c.make_room.ensures.items, e) (kept_addresses s (calls_of s h.calls.items) h.out _ _ _
    (kept_room s (calls_of s h.calls.items) h.out (vec_len h.calls) (vec_capacity h.calls) _ _ c.self.invariant fits))

pub returns-in_default-doors_of : goal.returns-in_default-doors_of
returns-in_default-doors_of c =
    let h = c.self.inside in
    let s = stock h.disks.items h.files.items h.addresses.items h.ports.items in
    rw (← c.self.view_is, c.make_room.ensures.items) (lost_links s h.calls.items
    (record { own = h.own_faults; disks = h.disk_faults; files = h.file_faults; doors = h.door_faults; ports = h.port_faults })
    c.in-Some.place c.index_mut.result.now (record { name = c.index_mut.result.now.name; it = c.take.new.self }) c.index_mut.ensures.value refl)

pub invariant_of-self-2 : goal.invariant_of-self-2
invariant_of-self-2 c =
    let h = c.self.inside in
    let s = stock h.disks.items h.files.items h.addresses.items h.ports.items in
    let at : place_in c.args.address.now h.addresses.items ≡ Some c.in-Some.place = search rules in
    let items : c.push_reserved.new.self.items ≡ h.calls.items ++ DoorsOut c.in-Some.place c.args.readers c.args.connections ∷ [] = search rules in
    let fits : vec_len c.push_reserved.new.self + (h.out + c.args.readers) ≤ vec_capacity c.push_reserved.new.self =
    omega (arith, c.if-not-make_room.ensures.room, c.push_reserved.ensures.len, c.push_reserved.ensures.capacity, c.in-Some-checked_add.ensures) in
    kept_doors_lent s h.calls.items c.push_reserved.new.self.items h.out (vec_len h.calls) (vec_capacity h.calls) _ _
    c.in-Some.place c.args.readers c.args.connections c.args.address.now c.index_mut.result.now (record { name = c.index_mut.result.now.name; it = c.take.new.self })
    c.self.invariant c.index_mut.ensures.value refl at items fits

pub returns : goal.returns
returns c =
    let h = c.self.inside in
    let s = stock h.disks.items h.files.items h.addresses.items h.ports.items in
    let at : place_in c.args.address.now h.addresses.items ≡ Some c.in-Some.place = search rules in
    let items : c.push_reserved.new.self.items ≡ h.calls.items ++ DoorsOut c.in-Some.place c.args.readers c.args.connections ∷ [] = search rules in
    let it : c.index_mut.result.now.it ≡ Some c.in-Some-take.address = search rules in
    rw (← c.self.view_is) (hands_doors s h.calls.items c.push_reserved.new.self.items
    (record { own = h.own_faults; disks = h.disk_faults; files = h.file_faults; doors = h.door_faults; ports = h.port_faults })
    c.in-Some.place c.args.readers c.args.connections c.args.address.now c.index_mut.result.now (record { name = c.index_mut.result.now.name; it = c.take.new.self })
    c.in-Some-take.address _ c.index_mut.ensures.value refl it c.take.ensures.after c.in-Ok.ensures at items)

use Rattle.std.proofs.Common.{◌≡◌, ◌≤◌, ◌+◌, ◌-◌, ◌++◌, ◌∷◌, [], Some, rules, arith, refl, vec_len, vec_capacity}
use Rattle.host.specs.Hosts.{AFile, Counts}
use Rattle.host.specs.Memory.{place_in, stock}
use Rattle.host.specs.declared.memory.MemCall.TheVariants.{FileBack}
use Rattle.host.proofs.Keeping.{out_before, some_out_before}
use Rattle.host.proofs.Lending.{kept_file_returned, takes_file}
use Rattle.host.proofs.memory.MemHostHost.close_file.Goals as goal

pub push_reserved-requires : goal.push_reserved-requires
push_reserved-requires c = omega (arith, some_out_before (AFile c.args.name.now) _ _ c.self.view_is c.requires _ _ _ c.self.invariant, c.self.invariant.room)

pub overflow_sub-self : goal.overflow_sub-self
overflow_sub-self c = omega (arith, some_out_before (AFile c.args.name.now) _ _ c.self.view_is c.requires _ _ _ c.self.invariant)

pub invariant_of-self : goal.invariant_of-self
invariant_of-self c =
    let h = c.self.inside in
    let s = stock h.disks.items h.files.items h.addresses.items h.ports.items in
    let some = out_before (AFile c.args.name.now) _ _ c.self.view_is c.requires in
    let more = some_out_before (AFile c.args.name.now) _ _ c.self.view_is c.requires _ _ _ c.self.invariant in
    let items : c.push_reserved.new.self.items ≡ h.calls.items ++ FileBack c.in-Some.place c.args.file ∷ [] = search rules in
    let fits : vec_len c.push_reserved.new.self + (h.out - 1) ≤ vec_capacity c.push_reserved.new.self =
    omega (arith, more, c.self.invariant.room, c.push_reserved.ensures.len, c.push_reserved.ensures.capacity) in
    let at : place_in c.args.name.now h.files.items ≡ Some c.in-Some.place = search rules in
    kept_file_returned s h.calls.items _ h.out (vec_len h.calls) (vec_capacity h.calls) _ _ c.in-Some.place c.args.name.now c.args.file c.self.invariant at items some fits

pub returns : goal.returns
returns c =
    let h = c.self.inside in
    let s = stock h.disks.items h.files.items h.addresses.items h.ports.items in
    let at : place_in c.args.name.now h.files.items ≡ Some c.in-Some.place = search rules in
    let items : c.push_reserved.new.self.items ≡ h.calls.items ++ FileBack c.in-Some.place c.args.file ∷ [] = search rules in
    let counts : Counts c.args.file.stream.read_faults h.file_faults c.count_return.new.count = record { rises = search rules; same = search rules } in
    rw (← c.self.view_is) (takes_file s h.calls.items c.push_reserved.new.self.items
    (record { own = h.own_faults; disks = h.disk_faults; files = h.file_faults; doors = h.door_faults; ports = h.port_faults })
    (record { own = h.own_faults; disks = h.disk_faults; files = c.count_return.new.count; doors = h.door_faults; ports = h.port_faults })
    c.in-Some.place c.args.name.now c.args.file at items counts refl)

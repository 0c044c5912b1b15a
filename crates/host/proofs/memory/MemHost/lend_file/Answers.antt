use Rattle.std.proofs.Common.{◌≡◌, ◌≤◌, ◌+◌, ◌++◌, ◌∷◌, [], Some, get_or, rules, vec_len, vec_capacity}
use Rattle.host.specs.Memory.{place_in, stock}
use Rattle.host.specs.declared.memory.MemCall.TheVariants.{FileOut}
use Rattle.host.proofs.Lending.{hands_file, kept_file_lent}
use Rattle.host.proofs.memory.MemHost.lend_file.Goals as goal

pub invariant_of-self-2 : goal.invariant_of-self-2
invariant_of-self-2 c =
    let h = c.self.inside in
    let s = stock h.disks.items h.files.items h.addresses.items h.ports.items in
    let at : place_in c.args.name.now h.files.items ≡ Some c.in_ok-place.place = search rules in
    let items : c.push_reserved.new.self.items ≡ h.calls.items ++ FileOut c.in_ok-place.place ∷ [] = search rules in
    let fits : vec_len c.push_reserved.new.self + (h.out + 1) ≤ vec_capacity c.push_reserved.new.self = search rules in
    kept_file_lent s h.calls.items c.push_reserved.new.self.items h.out (vec_len h.calls) (vec_capacity h.calls) _ _
    c.in_ok-place.place c.args.name.now c.self.invariant at items fits

pub returns : goal.returns
returns c =
    let h = c.self.inside in
    let s = stock h.disks.items h.files.items h.addresses.items h.ports.items in
    let at : place_in c.args.name.now h.files.items ≡ Some c.in_ok-place.place = search rules in
    let items : c.push_reserved.new.self.items ≡ h.calls.items ++ FileOut c.in_ok-place.place ∷ [] = search rules in
    let is : c.index.result.now ≡ get_or h.files.items c.in_ok-place.place c.index.result.now = search rules in
    let h' = hands_file s h.calls.items c.push_reserved.new.self.items
    (record { own = h.own_faults; disks = h.disk_faults; files = h.file_faults; doors = h.door_faults; ports = h.port_faults })
    c.in_ok-place.place c.args.name.now c.index.result.now c.in_ok-file.file.stream is c.in_ok-file.ensures at items in
    rw (← c.self.view_is) h'

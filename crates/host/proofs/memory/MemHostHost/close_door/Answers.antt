use Rattle.std.proofs.Common.{◌≡◌, ◌≤◌, ◌+◌, ◌-◌, ◌++◌, ◌∷◌, [], rules, arith, vec_len, vec_capacity}
use Rattle.host.specs.Hosts.{ADoor}
use Rattle.host.specs.Memory.{stock}
use Rattle.host.specs.declared.memory.MemCall.TheVariants.{DoorBack}
use Rattle.host.proofs.Keeping.{out_before, some_out_before}
use Rattle.host.proofs.Lending.{kept_door_returned}
use Rattle.host.proofs.memory.MemHostHost.close_door.Goals as goal

pub push_reserved-requires : goal.push_reserved-requires
push_reserved-requires c = omega (arith, some_out_before ADoor _ _ c.self.view_is c.requires _ _ _ c.self.invariant, c.self.invariant.room)

pub overflow_sub-self : goal.overflow_sub-self
overflow_sub-self c = omega (arith, some_out_before ADoor _ _ c.self.view_is c.requires _ _ _ c.self.invariant)

pub invariant_of-self : goal.invariant_of-self
invariant_of-self c =
    let h = c.self.inside in
    let s = stock h.disks.items h.files.items h.addresses.items h.ports.items in
    let some = out_before ADoor _ _ c.self.view_is c.requires in
    let more = some_out_before ADoor _ _ c.self.view_is c.requires _ _ _ c.self.invariant in
    let items : c.push_reserved.new.self.items ≡ h.calls.items ++ DoorBack c.args.door ∷ [] = search rules in
    let fits : vec_len c.push_reserved.new.self + (h.out - 1) ≤ vec_capacity c.push_reserved.new.self =
    omega (arith, more, c.self.invariant.room, c.push_reserved.ensures.len, c.push_reserved.ensures.capacity) in
    kept_door_returned s h.calls.items _ h.out (vec_len h.calls) (vec_capacity h.calls) _ _ c.args.door c.self.invariant items some fits

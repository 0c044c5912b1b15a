use Rattle.std.proofs.Common.{vec_len, vec_capacity}
use Rattle.host.specs.Memory.{stock}
use Rattle.host.proofs.Keeping.{kept_refused}
use Rattle.host.proofs.memory.MemHost.refuse.Goals as goal

pub invariant_of-self : goal.invariant_of-self
invariant_of-self c =
    let h = c.self.inside in
    let s = stock h.disks.items h.files.items h.addresses.items h.ports.items in
    kept_refused s h.calls.items c.note_if_room.new.calls.items h.out (vec_len h.calls) (vec_capacity h.calls) _ _ c.requires.0 c.args.call c.self.invariant c.requires.1 c.note_if_room.ensures.calls c.note_if_room.ensures.room

use Rattle.std.proofs.Common.{◌≡◌, ◌≤◌, Some, drop, map, vec_capacity}
use Rattle.std.specs.Vec.Iter.{into_iter_items}
use Rattle.outside.specs.Memory.{MemoryDoor}
use Rattle.host.specs.Hosts.{AreFresh}
use Rattle.host.specs.Memory.{each_links}
use Rattle.host.proofs.memory.doors_of.Given as goal

abbrev pub invariant-loop : goal.invariant-loop
invariant-loop l = record {
  fresh : AreFresh l.counter l.connections (each_links (Some l.fn.address)) (map (λ (door : MemoryDoor). door.connections) l.doors.items);
  left : into_iter_items l.rest ≡ drop l.counter l.fn.address.doors.items;
  room : l.readers ≤ vec_capacity l.doors;
}

use Rattle.std.proofs.Common.{◌≡◌, None, replicate}
use Rattle.std.specs.List.{flat_map}
use Rattle.side_by_side.specs.Taking.{put_all, taken_by}
use Rattle.side_by_side.proofs.taking.slots_of.Given as goal

abbrev pub invariant-loop-leaf : goal.invariant-loop-leaf
invariant-loop-leaf g l =
    put_all l.slots.items (flat_map taken_by l.leaf-iterator.rest.items)
    ≡ put_all (replicate l.fn.count None) (flat_map taken_by l.fn.leaves.items)

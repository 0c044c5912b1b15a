use Rattle.std.proofs.Common.{◌≡◌}
use Rattle.side_by_side.specs.Taking.{put_all}
use Rattle.side_by_side.proofs.taking.put_all.Given as goal

abbrev pub invariant-loop-index : goal.invariant-loop-index
invariant-loop-index g l = put_all l.slots.items l.index-iterator.rest.items ≡ put_all l.fn.slots.items l.fn.taken.items

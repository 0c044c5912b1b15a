use Rattle.std.proofs.Common.{◌≡◌, ◌++◌, Some, map}
use Rattle.side_by_side.proofs.each.all_of.Given as goal

-- what was taken out of the slots, and the slots that are left
abbrev pub invariant-loop-slot : goal.invariant-loop-slot
invariant-loop-slot g l = l.fn.slots.items ≡ map Some l.made.items ++ l.slot-iterator.rest.items

use Rattle.std.proofs.Common.{◌≡◌, ◌≤◌, length, drop}
use Rattle.std.specs.Fork.{GivesEach}
use Rattle.side_by_side.proofs.taking.fill_slots.Given as goal

-- the results so far, and the slots that are left
abbrev pub invariant-loop-slot : goal.invariant-loop-slot
invariant-loop-slot g l = record {
  made : GivesEach g.F.Fn l.f (length l.made.items) l.made.items;
  within : length l.made.items ≤ length l.fn.slots.items;
  left : l.slot-iterator.rest.items ≡ drop (length l.made.items) l.fn.slots.items;
}

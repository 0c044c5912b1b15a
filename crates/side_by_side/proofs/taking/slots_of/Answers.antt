use Rattle.std.proofs.Common.{ap}
use Rattle.side_by_side.specs.Taking.{taken_by}
use Rattle.side_by_side.proofs.SlotLemmas.{next-leaf}
use Rattle.side_by_side.proofs.taking.slots_of.Goals as goal

pub loop-leaf-preserved : goal.loop-leaf-preserved
loop-leaf-preserved g c =
    next-leaf c.loop-leaf.slots.items _ _ _ c.in-Some.leaf c.in_ok-leaf.field-0.items _ c.in-Some.ensures.steps.0
    (ap taken_by c.in_ok-leaf.was) c.put_all.ensures c.loop-leaf.invariant

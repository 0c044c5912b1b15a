use Rattle.std.proofs.Common.{take}
use Rattle.segment_blocks.specs.PackedRows.{AreInOrder}
use Rattle.segment_tests.proofs.tests.blocks.are_in_order.Given as goal

abbrev pub invariant-loop-at : goal.invariant-loop-at
invariant-loop-at l = AreInOrder (take l.at l.rows)

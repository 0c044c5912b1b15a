use Rattle.segment_blocks.proofs.PackedLemmas.{ArePacked-none}
use Rattle.segment_blocks.proofs.packed_rows.PackedRows.new.Goals as goal

pub invariant_of-result : goal.invariant_of-result
invariant_of-result c = rw c.new.ensures.items ArePacked-none

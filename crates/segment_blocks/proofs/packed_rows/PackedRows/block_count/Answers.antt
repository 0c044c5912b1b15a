use Rattle.std.proofs.Common.{subst}
use Rattle.segment_blocks.specs.PackedRows.{Packed, AreBlocksOf}
use Rattle.segment_blocks.proofs.PackedLemmas.{blocks-rows}
use Rattle.segment_blocks.proofs.packed_rows.PackedRows.block_count.Goals as goal

pub returns-clause-blocks : goal.returns-clause-blocks
returns-clause-blocks c =
    subst (λ (p : Packed). AreBlocksOf p.rows p.blocks) c.self.view_is
    (blocks-rows c.self.inside.blocks.items c.self.invariant.some c.self.invariant.few)

use Rattle.std.proofs.Common.{[], refl}
use Rattle.segment_blocks.proofs.EncodedLemmas.{rows_behind-nil}
use Rattle.segment_blocks.proofs.block_cursor.BlockCursor.empty.Goals as goal

pub returns : goal.returns
returns c = rows_behind-nil [] _ [] [] refl

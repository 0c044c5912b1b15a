use Rattle.spill_blobs.proofs.FieldLemmas.{joined}
use Rattle.spill_blobs.proofs.row_block.take_key.Goals as goal

pub returns-clause-is : goal.returns-clause-is
returns-clause-is c = joined 34 c.args.bytes.now _ _ _ c.split_at.ensures.front c.split_at.ensures.back c.copy_from_slice.ensures.after

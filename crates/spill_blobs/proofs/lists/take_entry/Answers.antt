use Rattle.std.specs.Int.{w32, to_le_bytes}
use Rattle.spill_blobs.proofs.FieldLemmas.{joined_twice}
use Rattle.spill_blobs.proofs.lists.take_entry.Goals as goal

pub returns-clause-is : goal.returns-clause-is
returns-clause-is c = joined_twice c.args.bytes.now (to_le_bytes w32 c.take_u32-rank.result.0) (to_le_bytes w32 c.take_u32-number.result.0)
    c.take_u32-rank.result.1.now c.take_u32-number.result.1.now c.take_u32-rank.ensures.is c.take_u32-number.ensures.is

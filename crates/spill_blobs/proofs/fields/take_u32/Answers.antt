use Rattle.std.proofs.Common.{◌∙◌}
use Rattle.spill_blobs.proofs.FieldLemmas.{joined}
use Rattle.spill_blobs.proofs.fields.take_u32.Goals as goal

pub returns-clause-is : goal.returns-clause-is
returns-clause-is c = joined 4 c.args.bytes.now _ _ _ c.split_at.ensures.front c.split_at.ensures.back (c.u32_of.ensures.back ∙ c.copy_from_slice.ensures.after)

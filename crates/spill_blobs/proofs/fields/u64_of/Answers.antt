use Rattle.std.proofs.Common.{rules}
use Rattle.std.proofs.lemmas.Nat.{le_bytes_8}
use Rattle.spill_blobs.proofs.fields.u64_of.Goals as goal

pub returns-clause-back : goal.returns-clause-back
returns-clause-back c = le_bytes_8 c.args.bytes _ (search rules) (search rules) c.from_le_bytes.ensures

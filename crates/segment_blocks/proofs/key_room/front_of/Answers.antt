use Rattle.std.proofs.Common.{arith}
use Rattle.std.proofs.lemmas.List.{length-take-le}
use Rattle.segment_blocks.proofs.key_room.front_of.Goals as goal

pub returns-clause-long : goal.returns-clause-long
returns-clause-long c = length-take-le 34 c.args.bytes.now (omega (arith, c.told-bytes))

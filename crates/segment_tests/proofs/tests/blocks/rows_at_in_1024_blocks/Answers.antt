use Rattle.std.proofs.Common.{◌<◌, ◌^◌, arith}
use Rattle.segment_tests.proofs.tests.blocks.rows_at_in_1024_blocks.Goals as goal

pub returns : goal.returns
returns g c =
    let below : c.args.packed.now.blocks < 2 ^ 11 = omega (arith, c.requires) in
    omega (arith, c.rows_at.ensures.cost 11 below)

use Rattle.std.proofs.Common.{◌<◌, ◌^◌, arith}
use Rattle.store_tests.proofs.tests.segments.has_no_row.Goals as goal

-- fewer than 2 ^ 3 blocks
pub returns : goal.returns
returns g c =
    let few : c.args.segment.now.blocks < 2 ^ 3 = omega (arith, c.requires) in
    omega (arith, c.rows_at.ensures.cost 3 few, c.next.ensures.cost)

use Rattle.std.proofs.Common.{◌<◌, length, ap, arith}
use Rattle.segment_blocks.specs.Encoded.{rows_of}
use Rattle.segment_blocks.proofs.AppendLemmas.{IsBlock-push}
use Rattle.segment_blocks.proofs.block.Block.push_whole.Goals as goal

pub invariant_of-self-2 : goal.invariant_of-self-2
invariant_of-self-2 c =
    let b = c.self.inside in
    let room : length (rows_of b.rows b.first) < 128 = omega (arith, c.requires, ap length c.self.view_is) in
    IsBlock-push c.args.row b.rows c.push_whole.new.self b.first b.last c.self.invariant room c.in_ok-push_whole.ensures.ok

use Rattle.std.proofs.Common.{◌≤◌, length, arith}
use Rattle.segment_blocks.proofs.BothLemmas.{MoveBoth-longer}
use Rattle.segment_blocks.proofs.block.Block.take_both.Goals as goal

pub overflow_sub-len : goal.overflow_sub-len
overflow_sub-len g c =
    let longer : length c.args.self.now ≤ length c.move_both-result.new.self =
    MoveBoth-longer c.args.terms.0.until.now c.args.terms.1.until.now c.args.terms.0.by c.args.terms.1.by c.args.left.now c.move_both-result.new.left c.args.right.now
    c.move_both-result.new.right c.args.self.now c.move_both-result.new.self c.move_both-result.ensures in
    omega (arith, longer, c.len-count.ensures.len, c.len.ensures.len)

pub returns-clause-cost : goal.returns-clause-cost
returns-clause-cost g c =
    let longer : length c.args.self.now ≤ length c.move_both-result.new.self =
    MoveBoth-longer c.args.terms.0.until.now c.args.terms.1.until.now c.args.terms.0.by c.args.terms.1.by c.args.left.now c.move_both-result.new.left c.args.right.now
    c.move_both-result.new.right c.args.self.now c.move_both-result.new.self c.move_both-result.ensures in
    omega (arith, longer, c.len-count.ensures.len, c.len.ensures.len, c.add.ensures)

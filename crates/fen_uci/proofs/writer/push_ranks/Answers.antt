use Rattle.std.proofs.Common.{◌-◌, arith}
use Rattle.fen_uci.proofs.Written.{rank_more}
use Rattle.fen_uci.proofs.writer.push_ranks.Goals as goal

pub loop-rank-preserved : goal.loop-rank-preserved
loop-rank-preserved c = record {
  text =
      rank_more c.args.squares.now (c.loop-rank.rank - 1) c.loop-rank.rank _ c.loop-rank.text.items c.push.new.self.items c.push_rank-in-loop-rank.new.text.items _
      (omega (arith, c.loop-rank-test.true)) (omega arith) c.push.ensures.items c.push_rank-in-loop-rank.ensures.text c.loop-rank.invariant.text;
  room = omega arith;
}

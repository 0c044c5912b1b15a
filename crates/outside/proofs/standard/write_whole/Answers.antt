use Rattle.std.proofs.Common.{arith}
use Rattle.outside.proofs.ByteLemmas.{slice_from, front_grows}
use Rattle.outside.proofs.standard.write_whole.Goals as goal

pub loop-at-preserved : goal.loop-at-preserved
loop-at-preserved g c =
    let took = c.in-Ok.ensures in
    record {
      within = omega (arith, rw (slice_from c.loop-at.at c.args.chunk.now) at took.bound);
      front = front_grows _ _ _ c.loop-at.at c.in-Ok.count c.args.chunk.now c.loop-at.invariant.front took.bytes;
    }

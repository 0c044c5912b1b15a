use Rattle.std.proofs.Common.{refl, arith}
use Rattle.batch_tally.proofs.RangeLemmas.{one-range, last-range}
use Rattle.batch_tally.proofs.ranges.ranges_of.Goals as goal

pub loop-part-preserved : goal.loop-part-preserved
loop-part-preserved c =
    one-range c.loop-part.ranges.items c.push.new.self.items c.loop-part.from c.max-below.result _ c.in_ok-push.ensures.items refl refl
    (omega (arith, c.max-below.ensures)) c.loop-part.invariant

pub returns : goal.returns
returns c =
    last-range c.loop-part.ranges.items c.push-2.new.self.items c.loop-part.from _ c.in_ok-push-2.ensures.items refl refl c.loop-part.invariant

use Rattle.std.proofs.Common.{refl, arith}
use Rattle.batch_tally.proofs.RunLemmas.{one-run, last-run}
use Rattle.batch_tally.proofs.reading.runs_of.Goals as goal

pub loop-preserved : goal.loop-preserved
loop-preserved c = (
  one-run c.args.texts c.loop.runs.items _ c.loop.from _ _ c.in_ok-push.ensures.items refl c.loop.invariant.0,
  omega (arith, c.loop.invariant.1, c.share_of-number.ensures),
)

pub returns : goal.returns
returns c = last-run c.args.texts c.loop.runs.items _ c.loop.from _ c.in_ok-push-2.ensures.items (omega (arith, c.loop.invariant.1)) c.loop.invariant.0

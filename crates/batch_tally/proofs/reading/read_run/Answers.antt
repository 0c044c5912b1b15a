use Rattle.batch_tally.proofs.RunLemmas.{one-read}
use Rattle.batch_tally.proofs.reading.read_run.Goals as goal

pub loop-text-preserved : goal.loop-text-preserved
loop-text-preserved c =
    one-read _ c.loop-text.text-index c.text-item.result c.loop-text.singles.items _ c.loop-text.parts.items c.push.new.self.items c.in_ok-read.field-0
    c.loop-text-test.true c.text-item.is c.in_ok-push.ensures.items c.in_ok-read.ensures c.loop-text.invariant

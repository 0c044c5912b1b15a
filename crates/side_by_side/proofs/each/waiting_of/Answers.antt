use Rattle.side_by_side.proofs.SlotLemmas.{slot-behind}
use Rattle.side_by_side.proofs.each.waiting_of.Goals as goal

pub loop-job-preserved : goal.loop-job-preserved
loop-job-preserved g c =
    slot-behind g.B.Given.jobs c.loop-job.job-iterator.rest.items _ c.in-Some.job c.loop-job.waiting.items c.push.new.self.items _
    c.in_ok-push.ensures.items c.loop-job.invariant c.in-Some.ensures.steps.0

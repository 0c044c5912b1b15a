use Rattle.batch_tally.proofs.RangeLemmas.{Leads}
use Rattle.batch_tally.proofs.ranges.ranges_of.Given as goal

abbrev pub invariant-loop-part : goal.invariant-loop-part
invariant-loop-part l = Leads l.ranges.items l.from

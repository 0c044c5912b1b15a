use Rattle.batch_tally.proofs.RangeLemmas.{Keeping}
use Rattle.batch_tally.proofs.ranges.singles_within.Given as goal

abbrev pub invariant-loop-accepted : goal.invariant-loop-accepted
invariant-loop-accepted l = Keeping l.range l.games l.singles.items l.number l.accepted-index

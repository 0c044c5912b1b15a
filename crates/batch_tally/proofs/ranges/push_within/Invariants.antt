use Rattle.std.proofs.Common.{◌≡◌, ◌++◌}
use Rattle.batch_tally.proofs.RangeLemmas.{kept_of}
use Rattle.batch_tally.proofs.ranges.push_within.Given as goal

abbrev pub invariant-loop-place : goal.invariant-loop-place
invariant-loop-place l = l.singles.items ≡ l.initial.singles.items ++ kept_of l.range l.number l.of_game l.place

use Rattle.tally_rows.proofs.Passing.{Filling}
use Rattle.tally_rows.proofs.rows.combine_sorted.Given as goal

abbrev pub invariant-loop-place : goal.invariant-loop-place
invariant-loop-place l = Filling l.singles l.entries l.rows.items l.place

use Rattle.std.proofs.Common.{◌≡◌, length, drop}
use Rattle.side_by_side.proofs.each.waiting_of.Given as goal

-- the jobs that have no number yet
abbrev pub invariant-loop-job : goal.invariant-loop-job
invariant-loop-job g l = l.job-iterator.rest.items ≡ drop (length l.waiting.items) g.B.Given.jobs

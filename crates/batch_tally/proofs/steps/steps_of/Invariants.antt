use Rattle.batch_tally.specs.Steps.{Stepping}
use Rattle.batch_tally.proofs.steps.steps_of.Given as goal

abbrev pub invariant-loop-ply : goal.invariant-loop-ply
invariant-loop-ply l = Stepping l.root l.moves l.board l.steps.items l.ply

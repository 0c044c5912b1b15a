use Rattle.explorer.specs.Trial.Trying.{AreDrawn}
use Rattle.explorer.proofs.trial.draw_samples.Given as goal

abbrev pub invariant-loop-index : goal.invariant-loop-index
invariant-loop-index l = AreDrawn l.index l.seed l.stream.items l.last l.draws

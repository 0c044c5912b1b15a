use Rattle.explorer.proofs.TrialLemmas.LastGame.{Playing}
use Rattle.explorer.proofs.trial.board_behind.Given as goal

abbrev pub invariant-loop-step : goal.invariant-loop-step
invariant-loop-step l = Playing l.root l.moves l.board l.step-index

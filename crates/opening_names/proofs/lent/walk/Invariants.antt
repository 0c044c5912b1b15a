use Rattle.std.proofs.Common.{drop}
use Rattle.std.specs.Option.{option_copied}
use Rattle.opening_names.proofs.Walking.{Walks}
use Rattle.opening_names.proofs.lent.walk.Given as goal

abbrev pub invariant-loop-step : goal.invariant-loop-step
invariant-loop-step l = Walks l.book l.fn.root l.plays l.board (drop l.step-index l.plays) (option_copied l.opening)

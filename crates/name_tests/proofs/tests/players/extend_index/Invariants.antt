use Rattle.explorer_model.specs.Timeline.{IsPrefix}
use Rattle.name_tests.proofs.tests.players.extend_index.Given as goal

abbrev pub invariant-loop-step : goal.invariant-loop-step
invariant-loop-step g l = IsPrefix l.index.batches l.pass.seen

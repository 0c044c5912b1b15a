use Rattle.std.proofs.Common.{◌≡◌, map, drop}
use Rattle.std.specs.List.{list_any}
use Rattle.tally_rows.specs.Games.{has_key}
use Rattle.batch_tally.specs.Steps.{step_as}
use Rattle.batch_tally.proofs.singles.has_key.Given as goal

abbrev pub invariant-loop-step : goal.invariant-loop-step
invariant-loop-step l =
    list_any (has_key l.sought.key) (map step_as l.steps) ≡ list_any (has_key l.sought.key) (map step_as (drop l.step-index l.steps))

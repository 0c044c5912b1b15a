use Rattle.std.proofs.Common.{take}
use Rattle.std.specs.List.{AllZip}
use Rattle.batch_tally.specs.Reading.{IsPartOf}
use Rattle.batch_tally.proofs.reading.read_run.Given as goal

-- what the texts so far hold
abbrev pub invariant-loop-text : goal.invariant-loop-text
invariant-loop-text l = AllZip (IsPartOf l.singles.items) (take l.text-index l.of_run) l.parts.items

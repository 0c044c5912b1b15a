use Rattle.std.proofs.Common.{◌≤◌}
use Rattle.batch_tally.proofs.RunLemmas.{LeadTo}
use Rattle.batch_tally.proofs.reading.runs_of.Given as goal

abbrev pub invariant-loop : goal.invariant-loop
invariant-loop l = LeadTo l.texts l.runs.items l.from × (l.from ≤ l.texts)

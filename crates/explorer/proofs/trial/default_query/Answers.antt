use Rattle.explorer.proofs.TrialLemmas.DefaultQuery.{none_malformed}
use Rattle.explorer.proofs.trial.default_query.Goals as goal

pub unreachable-requires : goal.unreachable-requires
unreachable-requires c = none_malformed c.in-Err-Fault.field-0-0 (rw c.in-Err-Fault.field-0-is at c.in-Err-Fault.ensures.reads)

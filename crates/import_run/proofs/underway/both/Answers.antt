use denote.Param.Send.{sendable}
use denote.Param.SendFields.{as_row_send, declared_send, variants_send}
use Rattle.std.proofs.Common.{not, rules}
use Rattle.std.proofs.Crossing.{crosses}
use Rattle.import_run.proofs.ClosingLemmas.{none_counted}
use Rattle.import_run.proofs.RoundLemmas.{turns_left}
use Rattle.import_run.proofs.SendLemmas.{tallied_send}
use Rattle.import_run.proofs.underway.both.Goals as goal

pub join_mut-requires-send-A : goal.join_mut-requires-send-A
join_mut-requires-send-A g c κs within = search (tallied_send, sendable, crosses, declared_send, variants_send, as_row_send) depth 40 fits 40000

-- what the closure left in what it borrows is what the caller has
pub returns-clause-turns : goal.returns-clause-turns
returns-clause-turns g c = (
  not c.is_empty.result,
  none_counted c.args.groups.len c.args.groups.items c.is_empty.result c.args.groups.ok.0 c.is_empty.ensures,
  turns_left c.join_mut.ensures.1.met.1.0 (search rules) (search rules) (search rules),
)

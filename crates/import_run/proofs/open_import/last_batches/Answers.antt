use Rattle.std.proofs.Common.{◌∙◌}
use Rattle.import_run.proofs.CloseLemmas.{last_is}
use Rattle.import_run.proofs.open_import.last_batches.Goals as goal

pub returns-in-Some : goal.returns-in-Some
returns-in-Some g c = c.batches.ensures ∙ last_is c.args.receipts.now c.in-Some.receipt.now c.in-Some.ensures.value

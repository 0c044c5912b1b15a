use Rattle.std.specs.Prelude.{map}
use Rattle.explorer_model.specs.Imports.{verdicts}
use Rattle.batch_tally.proofs.Accounting.{one-examinations, same-batches, same-refused}
use Rattle.batch_tally.proofs.laws.accounting_apart_is_determined.Goals as goal

pub returns-clause-batches : goal.returns-clause-batches
returns-clause-batches c = λ groups batches others refused other a b.
    same-batches (map verdicts) a.examinations b.examinations batches others refused other
    (one-examinations c.game_is_determined.ensures groups a.examinations b.examinations a.are_examinations b.are_examinations)
    a.yields b.yields

pub returns-clause-refused : goal.returns-clause-refused
returns-clause-refused c = λ groups batches others refused other a b.
    same-refused (map verdicts) a.examinations b.examinations batches others refused other
    (one-examinations c.game_is_determined.ensures groups a.examinations b.examinations a.are_examinations b.are_examinations)
    a.yields b.yields

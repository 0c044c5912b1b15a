use Rattle.explorer.proofs.LawLemmas.{one_answer}
use Rattle.explorer.proofs.LawLemmas.NoRoom.{accounts_from}
use Rattle.explorer.proofs.laws.a_told_input_has_one_answer.Goals as goal

pub returns : goal.returns
returns c = λ book query before after other told first second.
    one_answer book query before after other (accounts_from c.accounting_is_determined.ensures.batches c.accounting_is_determined.ensures.refused) c.answers_are_determined.ensures c.naming_is_determined.ensures told first second

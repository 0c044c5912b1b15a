use Rattle.explorer.proofs.LawLemmas.Trial.{one_trial}
use Rattle.explorer.proofs.LawLemmas.NoRoom.{accounts_from}
use Rattle.explorer.proofs.laws.a_trial_is_determined.Goals as goal

pub returns : goal.returns
returns c = λ games seed before after other ending ending'.
    one_trial games seed c.game_is_determined.ensures (accounts_from c.accounting_is_determined.ensures.batches c.accounting_is_determined.ensures.refused)
    c.samples_are_determined.ensures c.answers_are_determined.ensures c.query_is_determined.ensures before after other ending ending'

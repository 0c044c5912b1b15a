use Rattle.explorer.proofs.LawLemmas.Run.{one_run}
use Rattle.explorer.proofs.LawLemmas.NoRoom.{accounts_from}
use Rattle.explorer.proofs.laws.a_run_is_determined.Goals as goal

pub returns : goal.returns
returns c = λ words stream before after other status status' only opens told fine fine' well well' fed fed' first second.
    one_run words stream before after other status status' only c.game_is_determined.ensures (accounts_from c.accounting_is_determined.ensures.batches c.accounting_is_determined.ensures.refused) c.answers_are_determined.ensures
    c.naming_is_determined.ensures c.query_is_determined.ensures c.book_is_determined.ensures opens told fine fine' well well' fed fed' first second

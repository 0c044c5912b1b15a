use Rattle.explorer.proofs.LawLemmas.Import.{one_import}
use Rattle.explorer.proofs.LawLemmas.NoRoom.{accounts_from}
use Rattle.explorer.proofs.laws.an_import_is_determined.Goals as goal

pub returns : goal.returns
returns c = λ store image file stream label before after other ending ending'.
    let once = c.opening_is_determined.ensures in
    one_import store image file stream label before after other ending ending' c.game_is_determined.ensures (accounts_from c.accounting_is_determined.ensures.batches c.accounting_is_determined.ensures.refused)
    (record { opened = once.opened; refused = once.refused; either = once.either })

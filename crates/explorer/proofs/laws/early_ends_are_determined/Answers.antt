use Rattle.std.proofs.Common.{refl}
use Rattle.explorer.specs.Imported.{new_store}
use Rattle.explorer.proofs.LawLemmas.{one_cut_off, one_full_behind, one_too_much}
use Rattle.explorer.proofs.LawLemmas.NoRoom.{accounts_from}
use Rattle.explorer.proofs.laws.early_ends_are_determined.Goals as goal

pub returns-clause-cut_off : goal.returns-clause-cut_off
returns-clause-cut_off c = λ label stream batches others refused other. one_cut_off label stream batches others refused other (accounts_from c.accounting_is_determined.ensures.batches c.accounting_is_determined.ensures.refused)

pub returns-clause-too_much : goal.returns-clause-too_much
returns-clause-too_much c = λ label stream batches others refused other. one_too_much label stream batches others refused other (accounts_from c.accounting_is_determined.ensures.batches c.accounting_is_determined.ensures.refused)

pub returns-clause-full : goal.returns-clause-full
returns-clause-full c = λ label games bytes games' bytes' so_far batches others refused other.
    one_full_behind label new_store refl games bytes games' bytes' so_far batches others refused other c.game_is_determined.ensures
    (accounts_from c.accounting_is_determined.ensures.batches c.accounting_is_determined.ensures.refused)

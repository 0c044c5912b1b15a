use Rattle.explorer.proofs.LawLemmas.KeptStore.{old_is_kept}
use Rattle.explorer.proofs.laws.a_migration_keeps_the_old_store.Goals as goal

pub returns : goal.returns
returns c = λ old new image before after ending. old_is_kept old image new before after ending

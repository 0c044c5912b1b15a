use Rattle.explorer.proofs.LawLemmas.Migrate.{one_migration}
use Rattle.explorer.proofs.laws.a_migration_is_determined.Goals as goal

pub returns : goal.returns
returns c = λ old image new there. one_migration old new image there

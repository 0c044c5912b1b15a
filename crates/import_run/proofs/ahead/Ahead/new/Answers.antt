use Rattle.std.proofs.Common.{refl}
use Rattle.import_run.proofs.ChunkLemmas.{holds_nothing}
use Rattle.import_run.proofs.ahead.Ahead.new.Goals as goal

pub returns-clause-holds : goal.returns-clause-holds
returns-clause-holds c = λ now. holds_nothing now _ refl refl c.new-3.ensures.items c.new.ensures.cuts c.new-2.ensures.group

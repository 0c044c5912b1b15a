use Rattle.explorer.proofs.LawLemmas.Drawn.{drawn_by_some}
use Rattle.explorer.proofs.laws.nothing_else_is_stored.Goals as goal

pub returns : goal.returns
returns c = drawn_by_some

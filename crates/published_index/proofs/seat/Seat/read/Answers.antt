use Rattle.published_index.proofs.RuleLemmas.{reads-turns}
use Rattle.published_index.proofs.seat.Seat.read.Goals as goal

pub enter_as-requires : goal.enter_as-requires
enter_as-requires c x = reads-turns _ _ x

use Rattle.sample_games.proofs.HasGame.{has-game}
use Rattle.sample_games.proofs.laws.samples_have_games.Goals as goal

pub returns : goal.returns
returns c = has-game c.written_is_read.ensures.written c.legal_moves_keep_validity.ensures

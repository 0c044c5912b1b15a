use Rattle.explorer_model.proofs.LegalGames.{game-legal}
use Rattle.batch_tally.proofs.reading.read.Goals as goal

pub push_singles-requires-clause-valid : goal.push_singles-requires-clause-valid
push_singles-requires-clause-valid c = c.games_begin_validly.ensures c.as_slice.result.now c.in-Ok.game c.in-Ok.ensures

pub push_singles-requires-clause-legal : goal.push_singles-requires-clause-legal
push_singles-requires-clause-legal c = game-legal c.as_slice.result.now c.in-Ok.game c.in-Ok.ensures

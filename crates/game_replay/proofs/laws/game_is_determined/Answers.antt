use Rattle.game_replay.proofs.Determined.{one-game}
use Rattle.game_replay.proofs.laws.game_is_determined.Goals as goal

pub returns : goal.returns
returns c = one-game c.notation_is_determined.ensures.reading c.fen_is_determined.ensures

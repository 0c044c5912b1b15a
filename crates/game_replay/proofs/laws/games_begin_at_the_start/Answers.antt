use Rattle.game_replay.proofs.Roots.{begins-at-start}
use Rattle.game_replay.proofs.laws.games_begin_at_the_start.Goals as goal

pub returns : goal.returns
returns c = begins-at-start

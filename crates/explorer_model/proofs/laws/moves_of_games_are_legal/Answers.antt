use Rattle.explorer_model.proofs.LegalGames.{game-legal}
use Rattle.explorer_model.proofs.laws.moves_of_games_are_legal.Goals as goal

pub returns : goal.returns
returns c = game-legal

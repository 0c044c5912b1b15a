use Rattle.explorer_model.proofs.SoundClasses.{game-sound}
use Rattle.explorer_model.proofs.laws.classes_of_games_are_sound.Goals as goal

pub returns : goal.returns
returns c = game-sound

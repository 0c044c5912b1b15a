use Rattle.std.proofs.Common.{◌≡◌, map, take}
use Rattle.serde_json.specs.View.{view}
use Rattle.explorer_model.specs.Answer.{listed_value}
use Rattle.answer_json.proofs.game.games_value.Given as goal

abbrev pub invariant-loop-game : goal.invariant-loop-game
invariant-loop-game l = map view l.values.items ≡ map listed_value (take l.game-index l.games)

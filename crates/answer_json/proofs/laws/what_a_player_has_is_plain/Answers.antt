use Rattle.answer_json.proofs.PlainFound.{plain-player-found}
use Rattle.answer_json.proofs.laws.what_a_player_has_is_plain.Goals as goal

pub returns : goal.returns
returns c = plain-player-found

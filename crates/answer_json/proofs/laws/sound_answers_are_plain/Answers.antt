use Rattle.answer_json.proofs.PlainFound.{plain-sound}
use Rattle.answer_json.proofs.laws.sound_answers_are_plain.Goals as goal

pub returns : goal.returns
returns c = plain-sound

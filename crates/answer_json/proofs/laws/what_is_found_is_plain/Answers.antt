use Rattle.answer_json.proofs.PlainFound.{plain-found}
use Rattle.answer_json.proofs.laws.what_is_found_is_plain.Goals as goal

pub returns : goal.returns
returns c = plain-found

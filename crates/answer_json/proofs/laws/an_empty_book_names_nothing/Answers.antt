use Rattle.answer_json.proofs.Unnamed.{nothing-named}
use Rattle.answer_json.proofs.laws.an_empty_book_names_nothing.Goals as goal

pub returns : goal.returns
returns c = nothing-named

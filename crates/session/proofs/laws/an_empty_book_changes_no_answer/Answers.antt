use Rattle.session.proofs.EmptyBook.{named-plainly, plainly-named}
use Rattle.session.proofs.laws.an_empty_book_changes_no_answer.Goals as goal

pub returns : goal.returns
returns c = record { plain = plainly-named c.an_empty_book_names_nothing.ensures; named = named-plainly }

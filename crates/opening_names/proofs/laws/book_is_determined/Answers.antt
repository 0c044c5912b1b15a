use Rattle.opening_names.proofs.Determined.{one-book}
use Rattle.opening_names.proofs.laws.book_is_determined.Goals as goal

pub returns : goal.returns
returns c = one-book c.notation_is_determined.ensures.reading

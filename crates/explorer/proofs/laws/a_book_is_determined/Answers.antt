use Rattle.explorer.proofs.LawLemmas.Openings.{not_either, one_book, one_fault}
use Rattle.explorer.proofs.laws.a_book_is_determined.Goals as goal

pub returns : goal.returns
returns c = record {
  book = one_book c.book_is_determined.ensures;
  fault = one_fault c.book_is_determined.ensures;
  either = not_either c.book_is_determined.ensures;
}

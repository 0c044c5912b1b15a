use Rattle.name_tests.proofs.tests.books.found_of.Goals as goal

pub returns : goal.returns
returns c = rw (c.from_vec.ensures, c.in_ok-moves.ensures.items, c.line.ensures, c.line-2.ensures) (c.requires.first, (c.requires.second, tt))

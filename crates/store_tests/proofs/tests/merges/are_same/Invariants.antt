use Rattle.store_tests.proofs.tests.merges.are_same.Given as goal

abbrev pub ghosts-have_same_rows : goal.ghosts-have_same_rows
ghosts-have_same_rows a = record { name = a.blank.name; parts = a.blank.parts }

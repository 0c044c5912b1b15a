use Rattle.store_tests.proofs.tests.spills.told_through.Given as goal

abbrev pub ghosts-found_through : goal.ghosts-found_through
ghosts-found_through g a = record { name = a.blank.name; parts = a.blank.parts }

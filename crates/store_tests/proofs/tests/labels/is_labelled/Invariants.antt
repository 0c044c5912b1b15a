use Rattle.store_tests.proofs.tests.labels.is_labelled.Given as goal

abbrev pub ghosts-have_labels : goal.ghosts-have_labels
ghosts-have_labels g a = record { name = a.blank.name; parts = a.blank.parts }

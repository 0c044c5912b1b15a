use Rattle.import_tests.proofs.tests.labels.has_batches.Given as goal

abbrev pub ghosts-are_batches : goal.ghosts-are_batches
ghosts-are_batches g a = record { name = a.blank.name; parts = a.blank.parts }

use Rattle.store_tests.proofs.tests.readies.ready_batches_are_stored_and_refused_as_others.Given as goal

-- the index that was just opened
abbrev pub ghosts-commits : goal.ghosts-commits
ghosts-commits g a = record { name = a.unnamed.index.name }

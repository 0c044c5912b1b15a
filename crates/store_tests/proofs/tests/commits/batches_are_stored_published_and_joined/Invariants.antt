use Rattle.store_tests.proofs.tests.commits.batches_are_stored_published_and_joined.Given as goal

-- the index that was just opened
abbrev pub ghosts-stores_three : goal.ghosts-stores_three
ghosts-stores_three g a = record { name = a.unnamed.index.name }

abbrev pub ghosts-batches_of : goal.ghosts-batches_of
ghosts-batches_of g a = record { name = a.unnamed.index.name }

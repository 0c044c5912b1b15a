use Rattle.store_tests.proofs.tests.commits.batches_behind_a_fault.Given as goal

-- the index that was just opened
abbrev pub ghosts-breaks : goal.ghosts-breaks
ghosts-breaks g a = record { name = a.unnamed.index.name }

abbrev pub ghosts-batches_of : goal.ghosts-batches_of
ghosts-batches_of g a = record { name = a.unnamed.index.name }

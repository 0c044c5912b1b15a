use Rattle.import_tests.proofs.tests.desks.left_and_drained.Given as goal

-- the index that was just opened
abbrev pub ghosts-merge_stored : goal.ghosts-merge_stored
ghosts-merge_stored g a = record { name = a.unnamed.index.name }

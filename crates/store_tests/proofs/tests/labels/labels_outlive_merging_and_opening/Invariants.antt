use Rattle.store_tests.proofs.tests.labels.labels_outlive_merging_and_opening.Given as goal

-- the index that was just opened
abbrev pub ghosts-stores_and_joins : goal.ghosts-stores_and_joins
ghosts-stores_and_joins g a = record { name = a.unnamed.index.name }

abbrev pub ghosts-are_read : goal.ghosts-are_read
ghosts-are_read g a = record { name = a.unnamed.index.name }

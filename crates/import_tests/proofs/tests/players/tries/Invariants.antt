use Rattle.import_tests.proofs.tests.players.tries.Given as goal

-- the index that was just opened
abbrev pub ghosts-is_tried_over_a_store : goal.ghosts-is_tried_over_a_store
ghosts-is_tried_over_a_store g a = record { name = a.unnamed.index.name }

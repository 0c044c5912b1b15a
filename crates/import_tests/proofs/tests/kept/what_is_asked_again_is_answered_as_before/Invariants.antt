use Rattle.import_tests.proofs.tests.kept.what_is_asked_again_is_answered_as_before.Given as goal

-- the index that was just opened
abbrev pub ghosts-replies_over_a_store : goal.ghosts-replies_over_a_store
ghosts-replies_over_a_store g a = record { name = a.unnamed.index.name }

use Rattle.import_tests.proofs.tests.kept.answers_have_the_openings_of_the_book.Given as goal

-- the index that was just opened
abbrev pub ghosts-replies_over_a_store : goal.ghosts-replies_over_a_store
ghosts-replies_over_a_store g a = record { name = a.unnamed.index.name }

use Rattle.import_tests.proofs.tests.desks.two_threads_store_common_games_once.Given as goal

-- the index that was just opened
abbrev pub ghosts-import_two : goal.ghosts-import_two
ghosts-import_two g a = record { name = a.unnamed.index.name }

use Rattle.import_tests.proofs.tests.desks.a_handle_and_an_ingest_of_its_own_import_alike.Given as goal

-- the indexes that were just opened
abbrev pub ghosts-over_a_desk : goal.ghosts-over_a_desk
ghosts-over_a_desk g a = record { name = a.unnamed.index.name }

abbrev pub ghosts-over_an_ingest : goal.ghosts-over_an_ingest
ghosts-over_an_ingest g a = record { name = a.unnamed.index.name }

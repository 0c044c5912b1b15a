use Rattle.import_tests.proofs.tests.rounds.a_group_is_stored_while_a_slow_source_gives_a_byte_a_read.Given as goal

-- the index that was just opened
abbrev pub ghosts-import_slowly : goal.ghosts-import_slowly
ghosts-import_slowly g a = record { name = a.unnamed.index.name }

use Rattle.import_tests.proofs.tests.rounds.near_full_say.Given as goal

-- the index that was just opened
abbrev pub ghosts-import_all : goal.ghosts-import_all
ghosts-import_all g a = record { name = a.unnamed.index.name }

use Rattle.import_tests.proofs.tests.labels.stores_so.Given as goal

-- the index that was just opened
abbrev pub ghosts-becomes : goal.ghosts-becomes
ghosts-becomes g a = record { name = a.unnamed.index.name }

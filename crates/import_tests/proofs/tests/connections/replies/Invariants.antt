use Rattle.import_tests.proofs.tests.connections.replies.Given as goal

-- the index that was just opened
abbrev pub ghosts-converse : goal.ghosts-converse
ghosts-converse g a = record { name = a.unnamed.index.name }

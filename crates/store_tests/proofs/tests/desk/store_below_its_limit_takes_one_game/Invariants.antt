use Rattle.store_tests.proofs.tests.desk.store_below_its_limit_takes_one_game.Given as goal

-- the index that was just opened
abbrev pub ghosts-fills : goal.ghosts-fills
ghosts-fills g a = record { name = a.unnamed.index.name }

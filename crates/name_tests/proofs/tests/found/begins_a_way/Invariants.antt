use Rattle.name_tests.proofs.tests.found.begins_a_way.Given as goal

-- the index that was just opened
abbrev pub ghosts-goes_a_way : goal.ghosts-goes_a_way
ghosts-goes_a_way g a = record { name = a.unnamed.name }

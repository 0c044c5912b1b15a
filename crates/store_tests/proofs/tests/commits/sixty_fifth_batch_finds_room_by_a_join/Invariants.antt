use Rattle.store_tests.proofs.tests.commits.sixty_fifth_batch_finds_room_by_a_join.Given as goal

-- the index that was just opened
abbrev pub ghosts-fills_the_list : goal.ghosts-fills_the_list
ghosts-fills_the_list g a = record { name = a.unnamed.index.name }

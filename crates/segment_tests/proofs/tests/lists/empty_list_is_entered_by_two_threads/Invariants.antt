use Rattle.segment_tests.proofs.tests.lists.empty_list_is_entered_by_two_threads.Given as goal

-- the index that was just opened
abbrev pub ghosts-enters : goal.ghosts-enters
ghosts-enters g a = record { name = a.unnamed.name }

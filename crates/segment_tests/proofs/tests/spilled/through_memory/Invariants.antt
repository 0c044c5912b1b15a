use Rattle.segment_tests.proofs.tests.spilled.through_memory.Given as goal

abbrev pub ghosts-rows_through : goal.ghosts-rows_through
ghosts-rows_through a = record { name = a.blank.name; parts = a.blank.parts }

use Rattle.segment_tests.proofs.tests.merges.are_alike.Given as goal

abbrev pub ghosts-all_rows : goal.ghosts-all_rows
ghosts-all_rows g a = record { name = a.blank.name; parts = a.blank.parts }

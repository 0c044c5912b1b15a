use Rattle.segment_tests.proofs.tests.spilled.rows_of_the_start_are_found_again.Given as goal

abbrev pub ghosts-all_rows : goal.ghosts-all_rows
ghosts-all_rows g a = record { name = a.blank.name; parts = a.blank.parts }

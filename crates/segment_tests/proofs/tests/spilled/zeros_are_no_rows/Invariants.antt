use Rattle.segment_tests.proofs.tests.spilled.zeros_are_no_rows.Given as goal

abbrev pub ghosts-rows_through : goal.ghosts-rows_through
ghosts-rows_through g a = record { name = a.blank.name; parts = a.blank.parts }

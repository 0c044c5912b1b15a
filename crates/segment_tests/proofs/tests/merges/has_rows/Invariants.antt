use Rattle.segment_tests.proofs.tests.merges.has_rows.Given as goal

abbrev pub ghosts-all_rows : goal.ghosts-all_rows
ghosts-all_rows a = record { name = a.blank.name; parts = a.blank.parts }

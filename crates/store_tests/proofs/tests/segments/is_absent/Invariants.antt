use Rattle.store_tests.proofs.tests.segments.is_absent.Given as goal

abbrev pub ghosts-is_absent_by : goal.ghosts-is_absent_by
ghosts-is_absent_by a = record { name = a.blank.name; parts = a.blank.parts }

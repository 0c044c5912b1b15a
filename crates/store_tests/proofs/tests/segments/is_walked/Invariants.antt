use Rattle.store_tests.proofs.tests.segments.is_walked.Given as goal

abbrev pub ghosts-is_filtered : goal.ghosts-is_filtered
ghosts-is_filtered a = record { name = a.blank.name; parts = a.blank.parts }

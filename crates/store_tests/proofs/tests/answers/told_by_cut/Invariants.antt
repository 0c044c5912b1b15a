use Rattle.store_tests.proofs.tests.answers.told_by_cut.Given as goal

abbrev pub ghosts-told_by_segments : goal.ghosts-told_by_segments
ghosts-told_by_segments g a = record { name = a.blank.name; parts = a.blank.parts }

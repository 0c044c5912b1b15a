use Rattle.name_tests.proofs.tests.players.assert_ranges.Given as goal

abbrev pub ghosts-numbers : goal.ghosts-numbers
ghosts-numbers g a = record { name = a.blank.name; parts = a.blank.parts }

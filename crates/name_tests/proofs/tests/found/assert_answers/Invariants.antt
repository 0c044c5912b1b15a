use Rattle.name_tests.proofs.tests.found.assert_answers.Given as goal

abbrev pub ghosts-looked_up : goal.ghosts-looked_up
ghosts-looked_up g a = record { name = a.blank.name; parts = a.blank.parts }

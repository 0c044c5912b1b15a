use Rattle.import_tests.proofs.tests.doors.requests_of_a_door_are_answered.Given as goal

-- the index that was just opened
abbrev pub ghosts-answers : goal.ghosts-answers
ghosts-answers g a = record { name = a.unnamed.name }

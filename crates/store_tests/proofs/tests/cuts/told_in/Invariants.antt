use Rattle.store_tests.proofs.tests.cuts.told_in.Given as goal

abbrev pub ghosts-told_uncounted : goal.ghosts-told_uncounted
ghosts-told_uncounted a = record { name = a.blank.name; parts = a.blank.parts }

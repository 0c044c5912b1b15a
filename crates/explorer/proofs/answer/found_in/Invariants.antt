use Rattle.explorer.proofs.answer.found_in.Given as goal

abbrev pub ghosts-found_uncounted : goal.ghosts-found_uncounted
ghosts-found_uncounted g a = record { name = a.blank.name; parts = a.blank.parts }

use Rattle.session.proofs.player_answering.body_for.Given as goal

abbrev pub ghosts-look_uncounted : goal.ghosts-look_uncounted
ghosts-look_uncounted a = record { name = a.blank.name; parts = a.blank.parts }

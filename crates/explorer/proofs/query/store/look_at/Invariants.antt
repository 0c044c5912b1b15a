use Rattle.explorer.proofs.query.store.look_at.Given as goal

abbrev pub ghosts-look_in : goal.ghosts-look_in
ghosts-look_in g a = record { name = a.unnamed.index.name }

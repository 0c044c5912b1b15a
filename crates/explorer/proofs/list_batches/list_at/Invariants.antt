use Rattle.explorer.proofs.list_batches.list_at.Given as goal

abbrev pub ghosts-list_in : goal.ghosts-list_in
ghosts-list_in g a = record { name = a.unnamed.index.name }

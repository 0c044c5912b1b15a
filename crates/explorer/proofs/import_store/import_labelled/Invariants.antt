use Rattle.explorer.proofs.import_store.import_labelled.Given as goal

abbrev pub ghosts-import_in : goal.ghosts-import_in
ghosts-import_in g a = record { name = a.unnamed.index.name }

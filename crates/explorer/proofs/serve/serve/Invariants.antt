use Rattle.explorer.proofs.serve.serve.Given as goal

-- the index that was just opened
abbrev pub ghosts-serve_store : goal.ghosts-serve_store
ghosts-serve_store g a = record { name = a.store.index.name }

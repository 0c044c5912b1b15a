use Rattle.explorer.proofs.trial.try_stream.Given as goal

abbrev pub ghosts-try_unnamed : goal.ghosts-try_unnamed
ghosts-try_unnamed g a = record { name = a.unnamed.index.name }

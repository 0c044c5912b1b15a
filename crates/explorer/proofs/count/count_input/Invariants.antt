use Rattle.explorer.proofs.count.count_input.Given as goal

abbrev pub ghosts-count_unnamed : goal.ghosts-count_unnamed
ghosts-count_unnamed g a = record { name = a.unnamed.index.name }

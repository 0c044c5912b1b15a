use Rattle.side_by_side.proofs.each.map_each.Given as goal

abbrev pub ghosts-map_given : goal.ghosts-map_given
ghosts-map_given g a = record { jobs = a.jobs.items }

use Rattle.explorer.proofs.query.spilled.spill_at.Given as goal

abbrev pub ghosts-line_by : goal.ghosts-line_by
ghosts-line_by g a = record { name = a.blank.name; parts = a.blank.parts }

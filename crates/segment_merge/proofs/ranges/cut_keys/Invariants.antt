use Rattle.segment_merge.proofs.ranges.cut_keys.Given as goal

abbrev pub ghosts-cut_keys_in : goal.ghosts-cut_keys_in
ghosts-cut_keys_in a = record { name = a.blank.name; parts = a.blank.parts }

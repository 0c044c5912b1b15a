use Rattle.segment_merge.proofs.ranges.merge_range.Given as goal

abbrev pub ghosts-merge_range_in : goal.ghosts-merge_range_in
ghosts-merge_range_in a = record { name = a.blank.name; parts = a.blank.parts }

use Rattle.segment_tests.proofs.tests.blocks.a_walk_within_keys_gives_what_a_plain_filter_gives.Given as goal

abbrev pub ghosts-first_keys : goal.ghosts-first_keys
ghosts-first_keys g a = record { name = a.blank.name; parts = a.blank.parts }

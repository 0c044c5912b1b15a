use Rattle.segment_tests.proofs.tests.blocks.are_within.Given as goal

abbrev pub ghosts-walks_within : goal.ghosts-walks_within
ghosts-walks_within a = record { name = a.blank.name; parts = a.blank.parts }

use Rattle.segment_tests.proofs.tests.blocks.are_walked.Given as goal

abbrev pub ghosts-walks_at : goal.ghosts-walks_at
ghosts-walks_at a = record { name = a.blank.name; parts = a.blank.parts }

abbrev pub ghosts-walks_from : goal.ghosts-walks_from
ghosts-walks_from a = record { name = a.blank.name; parts = a.blank.parts }

use Rattle.store_tests.proofs.tests.published.snapshot_keeps_its_segments_when_they_are_joined.Given as goal

-- the index that was just opened
abbrev pub ghosts-keeps_segments : goal.ghosts-keeps_segments
ghosts-keeps_segments g a = record { name = a.unnamed.name }

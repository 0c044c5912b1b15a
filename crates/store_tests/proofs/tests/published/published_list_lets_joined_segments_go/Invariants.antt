use Rattle.store_tests.proofs.tests.published.published_list_lets_joined_segments_go.Given as goal

-- the index that was just opened
abbrev pub ghosts-lets_segments_go : goal.ghosts-lets_segments_go
ghosts-lets_segments_go g a = record { name = a.unnamed.name }

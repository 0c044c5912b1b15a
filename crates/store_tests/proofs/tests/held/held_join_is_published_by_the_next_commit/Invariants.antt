use Rattle.store_tests.proofs.tests.held.held_join_is_published_by_the_next_commit.Given as goal

-- the index that was just opened
abbrev pub ghosts-holds_join : goal.ghosts-holds_join
ghosts-holds_join g a = record { name = a.unnamed.index.name }

use Rattle.store_tests.proofs.tests.held.held_batch_is_published_by_the_next_commit.Given as goal

-- the index that was just opened
abbrev pub ghosts-holds_batch : goal.ghosts-holds_batch
ghosts-holds_batch g a = record { name = a.unnamed.index.name }

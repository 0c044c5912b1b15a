use Rattle.store_tests.proofs.tests.desk.job_whose_two_another_worker_joined_is_gone.Given as goal

-- the index that was just opened
abbrev pub ghosts-joins : goal.ghosts-joins
ghosts-joins g a = record { name = a.unnamed.index.name }

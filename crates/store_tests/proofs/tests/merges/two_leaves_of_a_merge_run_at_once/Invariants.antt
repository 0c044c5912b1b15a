use Rattle.store_tests.proofs.tests.merges.two_leaves_of_a_merge_run_at_once.Given as goal

abbrev pub ghosts-rows_by_wins : goal.ghosts-rows_by_wins
ghosts-rows_by_wins g a = record { name = a.blank.name; parts = a.blank.parts }

abbrev pub ghosts-listed_games : goal.ghosts-listed_games
ghosts-listed_games g a = record { name = a.blank.name; parts = a.blank.parts }

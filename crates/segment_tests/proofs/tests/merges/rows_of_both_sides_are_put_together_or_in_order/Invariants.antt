use Rattle.segment_tests.proofs.tests.merges.rows_of_both_sides_are_put_together_or_in_order.Given as goal

abbrev pub ghosts-rows_with_a_move : goal.ghosts-rows_with_a_move
ghosts-rows_with_a_move g a = record { name = a.blank.name; parts = a.blank.parts }

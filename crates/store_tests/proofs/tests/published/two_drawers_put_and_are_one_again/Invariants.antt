use Rattle.store_tests.proofs.tests.published.two_drawers_put_and_are_one_again.Given as goal

-- the index that was just opened
abbrev pub ghosts-settles : goal.ghosts-settles
ghosts-settles g a = record { name = a.unnamed.name }

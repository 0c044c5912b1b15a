use Rattle.store_tests.proofs.tests.published.each_enter_gives_a_snapshot_while_another_thread_puts.Given as goal

-- the index that was just opened
abbrev pub ghosts-enters_during_puts : goal.ghosts-enters_during_puts
ghosts-enters_during_puts g a = record { name = a.unnamed.name }

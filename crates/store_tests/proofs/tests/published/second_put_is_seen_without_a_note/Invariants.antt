use Rattle.store_tests.proofs.tests.published.second_put_is_seen_without_a_note.Given as goal

-- the index that was just opened
abbrev pub ghosts-sees_puts : goal.ghosts-sees_puts
ghosts-sees_puts g a = record { name = a.unnamed.name }

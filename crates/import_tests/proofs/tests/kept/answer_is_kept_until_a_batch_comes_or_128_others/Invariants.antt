use Rattle.import_tests.proofs.tests.kept.answer_is_kept_until_a_batch_comes_or_128_others.Given as goal

-- the index that was just opened
abbrev pub ghosts-seen_over_a_store : goal.ghosts-seen_over_a_store
ghosts-seen_over_a_store g a = record { name = a.unnamed.index.name }

use Rattle.ingest_desk.proofs.batches.batch_of.Given as goal

abbrev pub ghosts-batch_counted : goal.ghosts-batch_counted
ghosts-batch_counted a = record { name = a.blank.name; parts = a.blank.parts }

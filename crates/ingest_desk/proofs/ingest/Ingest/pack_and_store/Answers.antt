use Rattle.ingest_desk.proofs.ingest.Ingest.pack_and_store.Goals as goal

pub store-requires-clause-fits : goal.store-requires-clause-fits
store-requires-clause-fits g c = rw c.in-Ok.ensures c.requires.fits

pub returns-in-Ok-clause-answer : goal.returns-in-Ok-clause-answer
returns-in-Ok-clause-answer g c = rw c.in-Ok.ensures at c.store.ensures.answer

pub returns-in-Ok-clause-crash : goal.returns-in-Ok-clause-crash
returns-in-Ok-clause-crash g c = rw c.in-Ok.ensures at c.store.ensures.crash

pub returns-in-Err-clause-crash : goal.returns-in-Err-clause-crash
returns-in-Err-clause-crash g c = c.stays_sound.ensures.crash c.requires.open c.args.handed.batch

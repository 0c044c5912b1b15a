use Rattle.explorer_model.proofs.StoreWriting.{batch-was-stored, journal-was-stored}
use Rattle.explorer_model.proofs.store_laws.what_is_read_was_stored.Goals as goal

pub returns : goal.returns
returns c = record { batch = batch-was-stored; journal = journal-was-stored }

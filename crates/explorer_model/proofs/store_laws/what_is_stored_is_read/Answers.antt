use Rattle.explorer_model.proofs.StoreReading.{batch-read, records-read, journal-read}
use Rattle.explorer_model.proofs.store_laws.what_is_stored_is_read.Goals as goal

pub returns : goal.returns
returns c = record {
  batch = batch-read;
  records = records-read;
  journal = journal-read;
}

-- What is read of a log is what is read of a store.
use Rattle.std.proofs.Common.{◌≡◌, ℕ, List, map, All, Option, Some, None, IfSome, Ok, Err, ap, subst}
use Rattle.disk_model.specs.Disk.{DiskState}
use Rattle.explorer_model.specs.declared.archive.Batch.{Batch}
use Rattle.explorer_model.specs.declared.fault.Stop.{Stop}
use Rattle.explorer_model.specs.declared.fault.Stop.TheVariants as stops
use Rattle.explorer_model.specs.declared.store.LogFault.{LogFault}
use Rattle.explorer_model.specs.Stop.{Fails}
use Rattle.explorer_model.specs.StoreFile.{payload_of, batch_in, batches_in, records_at, journal_by, journal_of, IsStorable}
use Rattle.record_log.specs.declared.fault.OpenFault.{OpenFault}
use Rattle.record_log.specs.declared.fault.OpenFault.TheVariants as opening
use Rattle.record_log.specs.Log as log
use Rattle.manifest.specs.Manifest.{batch_format, HasJournal, IsOpened, IsNotOpened, open_fault}
use Rattle.manifest.proofs.JournalLemmas.{holds-journal, journal-of-payloads}

pub told-weaker : (told : Option (List ℕ)) (P Q : List ℕ → Type 0) → ((file : List ℕ) → P file → Q file) → IfSome told P → IfSome told Q
told-weaker None P Q to given = tt
told-weaker (Some file) P Q to given = to file given

-- a fault of the log
refused-log : (file : List ℕ) (fault : LogFault) → log.reading_of batch_format file ≡ Err fault → journal_of file ≡ Err fault
unfolding journal_of
refused-log file fault is = ap (journal_by batch_in) is

module _ {D : Type 0} (disk : D → DiskState) where
  pub not-opened : (fault : OpenFault) (old new : D) → log.IsNotOpened disk batch_format fault old new → IsNotOpened disk fault old new
  not-opened (opening.Log fault) old new is =
      told-weaker (disk old).content (λ file. log.reading_of batch_format file ≡ Err fault) (λ file. journal_of file ≡ Err fault)
      (λ file read. refused-log file fault read) is
  not-opened (opening.DiskFault before after) old new is = is
  not-opened opening.OutOfMemory old new is = tt

  module _ (left_since : D → ℕ → List ℕ → Type 0) (payloads : List (List ℕ)) (before : D) (manifest : log.Log D)
      (is : log.IsOpened disk left_since batch_format payloads before manifest) where
    pub opened-by : (journal : List Batch) → batches_in batch_in (records_at 12 payloads) ≡ Ok journal → All IsStorable journal
        → payloads ≡ map payload_of journal → IsOpened disk left_since journal before manifest
    opened-by journal read fit are = record {
      read =
          told-weaker (disk before).content (log.HasPayloads batch_format payloads) (HasJournal journal)
          (λ file has. journal-of-payloads payloads file (Ok journal) has read) is.read;
      holds =
          holds-journal disk left_since journal manifest fit is.is_format
          (subst (λ (l : List (List ℕ)). log.IsLogOf disk left_since l manifest) are is.holds);
    }

    -- a payload off the form
    pub refused-by : (stop : Stop LogFault) (new : D) → Fails stop (batches_in batch_in (records_at 12 payloads))
        → IsNotOpened disk (open_fault stop) before new
    refused-by (stops.Fault fault) new fails =
        told-weaker (disk before).content (log.HasPayloads batch_format payloads) (λ file. journal_of file ≡ Err fault)
        (λ file has. journal-of-payloads payloads file (Err fault) has fails) is.read
    refused-by stops.OutOfMemory new fails = tt

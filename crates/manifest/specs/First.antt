-- Statement: the journal of a store of the first format.
use Rattle.std.specs.Prelude.{◌≡◌, ◌≤◌, ◌⊎◌, ℕ, List, [], ◌∷◌, ◌++◌, length, map, IfSome, Ok, Err}
use Rattle.disk_model.specs.Disk.{DiskState}
use Rattle.explorer_model.specs.declared.archive.Batch.{Batch}
use Rattle.explorer_model.specs.declared.store.LogFault.{LogFault}
use Rattle.explorer_model.specs.declared.store.LogFault.TheVariants.{NotALog, OtherFormat, Damaged}
use Rattle.explorer_model.specs.Journal.{byte_count, game_count}
use Rattle.explorer_model.specs.Labels.{no_label}
use Rattle.explorer_model.specs.StoreFile.{first_format, first_payload_limit, first_journal_of, front_of, texts_field, IsStorable}
use Rattle.record_log.specs.Log.{IsFault}
use Rattle.record_log.specs.declared.format.Format.{Format}
use Rattle.record_log.specs.declared.fault.OpenFault.{OpenFault}
use Rattle.record_log.specs.declared.fault.OpenFault.TheVariants as opening

-- the first format of a log of batches
abbrev pub first_batch_format : Format
first_batch_format = record { number = first_format; most = first_payload_limit }

-- a batch that can be stored and has no label
pub record IsBare (batch : Batch) : Type 0 where
  pub label : batch.label ≡ no_label
  pub storable : IsStorable batch

-- what is read of an image in the first format
abbrev pub HasFirstJournal : List Batch → List ℕ → Type 0
HasFirstJournal journal image = first_journal_of image ≡ Ok journal

-- ---- limits

-- no more than a store of the first format had
abbrev pub IsWithinFirst : List Batch → Type 0
IsWithinFirst journal = (game_count journal ≤ 131072) × (byte_count journal ≤ 268435456)

-- the file of a journal in the first format, up to its closed gate
abbrev pub first_store_of : List Batch → List ℕ
first_store_of journal = front_of first_format (map (λ batch. texts_field batch.texts) journal)

-- with the batch whose record's gate stands at this place there are more
pub record PassesFirst (journal : List Batch) (gate : ℕ) : Type 0 where
  pub before : List Batch
  pub batch : Batch
  pub rest : List Batch
  pub is : journal ≡ before ++ batch ∷ rest
  pub within : IsWithinFirst before
  pub over : ¬ IsWithinFirst (before ++ batch ∷ [])
  pub place : gate ≡ length (first_store_of before)

-- ---- what is refused

-- with a batch whose record's gate stands here a file has more than the first format had
abbrev pub PassesAt : List Batch → LogFault → Type 0
PassesAt journal (Damaged gate) = PassesFirst journal gate
PassesAt journal NotALog = ⊥
PassesAt journal (OtherFormat number) = ⊥

-- what is wrong with a file: what is read of it, or that it has more than the first format had
abbrev pub IsWrongFirst : LogFault → List ℕ → Type 0
IsWrongFirst fault file =
    (first_journal_of file ≡ Err fault)
    ⊎ ((journal : List Batch) × HasFirstJournal journal file × PassesAt journal fault)

-- each fault of such a reading, and what it says of the disk
abbrev pub IsNotOpenedFirst : {D : Type 0} → (D → DiskState) → OpenFault → D → D → Type 0
IsNotOpenedFirst disk (opening.Log fault) old new = IfSome (disk old).content (IsWrongFirst fault)
IsNotOpenedFirst disk (opening.DiskFault before after) old new =
    IsFault before after (disk old) (disk new)
IsNotOpenedFirst disk opening.OutOfMemory old new = Unit {0}

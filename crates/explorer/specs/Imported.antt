-- Statement: what an import into an open store comes to.
use Rattle.std.specs.Prelude.{◌≡◌, ◌<◌, ◌++◌, ℕ, List, [], ◌∷◌, length, IfSome, Option, None, Some}
use Rattle.std.specs.Io.KnownBytes.{IsAtEnd}
use Rattle.disk_model.specs.Disk.{DiskState}
use Rattle.outside.specs.Stream.{Stream, Reads, Rises}
use Rattle.explorer_model.specs.declared.archive.Batch.{Batch}
use Rattle.explorer_model.specs.declared.fault.Refusal.{Refusal}
use Rattle.explorer_model.specs.Cuts.{cuts}
use Rattle.explorer_model.specs.Imports.{batch_of, groups}
use Rattle.explorer_model.specs.Journal.{IsSound, game_count, input_limit}
use Rattle.manifest.specs.Manifest.{HasJournal, IsWithOrWithoutBatch}
use Rattle.ingest_desk.specs.Reporting.{FindsNoRoom}
use Rattle.ingest_desk.specs.declared.report.ImportEnding.{ImportEnding}
use Rattle.ingest_desk.specs.declared.report.ImportEnding.TheVariants as endings
use Rattle.import_run.specs.Committing.{Known}
use Rattle.import_run.specs.Ending.{AreSettled, EndsAt, HasMaybeOneMore, HasRoomFor, IsCutOff, IsTooMuch, Lacks, MayRise}
use Rattle.explorer.specs.declared.importing.Came.{Came}

-- a store without a batch, that is open
abbrev pub new_store : Known
new_store = record { journal = []; fault = None; failed = None; games = []; are_games = tt }

-- a group of the stream finds no room, by so many games and bytes that are stored
abbrev pub IsFullAt : List ℕ → ℕ → ℕ → Known → List ℕ → Option (List ℕ) → List Batch
    → List Refusal → Type 0
IsFullAt label games bytes start stream left_over batches refused =
    (ends : EndsAt label start stream left_over batches refused)
    × FindsNoRoom (start.journal ++ batches) games bytes ends.left

-- the stream was read to its end, below the bound, and all its groups are settled
pub record IsAllSettled (label : List ℕ) (start : Known) (stream : List ℕ)
    (left_over : Option (List ℕ)) (batches : List Batch) (refused : List Refusal) : Type 0 where
  pub at_end : IsAtEnd left_over
  pub below : length stream < input_limit
  pub settled : AreSettled label start (groups (cuts stream)) batches refused

-- How an import under a label stands with the bytes that it took and with the stored journal, by
-- its ending; the store was open before. After a disk fault the batch that failed is that of the
-- texts that were left of the group.
abbrev pub StandsBy : List ℕ → ImportEnding → Known → List ℕ → Option (List ℕ) → List Batch
    → List Refusal → List Batch → Option Batch → Type 0
StandsBy label endings.Whole start stream left_over batches refused stored failed =
    IsAllSettled label start stream left_over batches refused
StandsBy label (endings.ReadFault _ _) start stream left_over batches refused stored failed =
    IsCutOff label start stream batches refused
StandsBy label (endings.TooMuch bytes) start stream left_over batches refused stored failed =
    IsTooMuch label start stream batches refused
StandsBy label (endings.DiskFault _ _) start stream left_over batches refused stored failed =
    (ends : EndsAt label start stream left_over batches refused)
    × HasRoomFor (start.journal ++ batches) ends.left × (failed ≡ batch_of label ends.left)
StandsBy label (endings.Closed _ _) start stream left_over batches refused stored failed = ⊥
StandsBy label (endings.Full games bytes) start stream left_over batches refused stored failed =
    IsFullAt label games bytes start stream left_over batches refused
StandsBy label endings.OutOfMemory start stream left_over batches refused stored failed =
    Lacks label start stream left_over batches refused stored

-- the stored journal: the batches stand behind the one before; where memory was wanting, there may
-- be one more, and `Lacks` says which
abbrev pub StoredBy : ImportEnding → List Batch → List Batch → Type 0
StoredBy endings.OutOfMemory journal stored = HasMaybeOneMore journal stored
StoredBy _ journal stored = stored ≡ journal

-- the bytes of the store: they have the journal; after a disk fault perhaps with the batch that
-- failed, with which it is sound too
abbrev pub HoldsBy : ImportEnding → List Batch → Option Batch → List ℕ → Type 0
HoldsBy (endings.DiskFault before after) stored failed image =
    (batch : Batch) × (failed ≡ Some batch) × IsSound (stored ++ batch ∷ [])
    × IsWithOrWithoutBatch stored batch image
HoldsBy _ stored failed image = HasJournal stored image

-- no call of the disk failed, and no read
pub record NoFault (disk disk_after : DiskState) (source source_after : Stream) : Type 0 where
  pub calls : disk_after.faults ≡ disk.faults
  pub reads : source_after.read_faults ≡ source.read_faults

-- A call of the disk failed exactly where the ending says so. So did a read, but that behind a group at
-- which the import ended one may have failed.
abbrev pub FaultsBy : ImportEnding → DiskState → DiskState → Stream → Stream → Type 0
FaultsBy (endings.ReadFault before after) disk disk_after source source_after =
    (disk_after.faults ≡ disk.faults) × Rises source.read_faults source_after.read_faults
FaultsBy (endings.DiskFault before after) disk disk_after source source_after =
    Rises disk.faults disk_after.faults × MayRise source.read_faults source_after.read_faults
FaultsBy endings.Whole disk disk_after source source_after =
    NoFault disk disk_after source source_after
FaultsBy (endings.TooMuch bytes) disk disk_after source source_after =
    NoFault disk disk_after source source_after
FaultsBy _ disk disk_after source source_after =
    (disk_after.faults ≡ disk.faults) × MayRise source.read_faults source_after.read_faults

-- an import under a label into an open store of this journal came to this, and left that one
pub record ImportedIn (label : List ℕ) (journal stored : List Batch) (disk disk_after : DiskState)
    (source source_after : Stream) (came : Came) : Type 0 where
  pub start : Known
  pub sound : start.fault ≡ None
  pub none_failed : start.failed ≡ None
  pub journal_is : start.journal ≡ journal
  pub stream : List ℕ
  pub reads : Reads stream source source_after
  pub batches : List Batch
  -- the batch that failed, where the ending is a disk fault
  pub failed : Option Batch
  pub stands : StandsBy label came.ending start stream source_after.left batches came.refused.items
      stored failed
  pub stored_are : StoredBy came.ending (start.journal ++ batches) stored
  pub is_sound : IsSound stored
  pub holds : IfSome disk_after.content (HoldsBy came.ending stored failed)
  pub faults : FaultsBy came.ending disk disk_after source source_after
  pub games_are : came.games ≡ game_count batches
  pub batches_are : came.batches ≡ length batches
  pub stored_is : came.journal ≡ length stored

-- it left some journal
abbrev pub ImportedTo : List ℕ → List Batch → DiskState → DiskState → Stream → Stream → Came
    → Type 0
ImportedTo label journal disk disk_after source source_after came = (stored : List Batch)
    × ImportedIn label journal stored disk disk_after source source_after came

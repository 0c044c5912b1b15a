-- Statement: how a run of the command `query` ends whose rows stand in a scratch file.
use Rattle.std.specs.Prelude.{◌≡◌, ◌⊎◌, ◌<◌, ℕ, List, length, None, IfSome, Vec, Result, Ok, Err, string_bytes}
use Rattle.std.specs.Global.{Global}
use Rattle.disk_model.specs.Disk.{DiskState}
use Rattle.outside.specs.Ports.{Scratch}
use Rattle.outside.specs.Stream.{FailsToTake, Rises, Takes}
use Rattle.explorer_model.specs.declared.answer.Found.{Found}
use Rattle.explorer_model.specs.declared.archive.Batch.{Batch}
use Rattle.explorer_model.specs.declared.opening.Naming.{Naming}
use Rattle.explorer_model.specs.declared.query.Query.{Query}
use Rattle.explorer_model.specs.declared.store.LogFault.{LogFault}
use Rattle.explorer_model.specs.declared.store.LogFault.TheVariants as log
use Rattle.explorer_model.specs.Finds.{IsFound}
use Rattle.explorer_model.specs.Openings.{NamedPosition}
use Rattle.segment_blocks.specs.Segment.{CountedSpan}
use Rattle.spill_blobs.specs.Sets.{HasJust, Holds, journal_of, set_bytes}
use Rattle.spill_blobs.specs.declared.port_fault.PortFault.TheVariants as ports
use Rattle.record_log.specs.declared.fault.OpenFault.TheVariants as opening
use Rattle.ingest_desk.specs.Spilling.{AreLone}
use Rattle.ingest_desk.specs.declared.spill_fault.SpillOpenFault.{SpillOpenFault}
use Rattle.ingest_desk.specs.declared.spill_fault.SpillOpenFault.TheVariants.{Port, Store}
use Rattle.lookup.specs.Sound.{IsSoundAnswer}
use Rattle.host.specs.Hosts.{HandsDisk, HandsPort, HostState, RefusesDisk, RefusesPort, TakesDisk, TakesPort}
use Rattle.explorer.specs.declared.fault.Fault.TheVariants.{CannotOpen, Damaged, DiskFault, NotAStore, OtherFormat, OutOfMemory, SpillDamaged, SpillFault, WriteFault}
use Rattle.explorer.specs.Answer.{IsLineOf, IsNamingOf, answer_line}
use Rattle.explorer.specs.Faults.{FirstCause}
use Rattle.explorer.specs.Lines.{Ending, Done, Stopped}
use Rattle.explorer.specs.Opened.{FailsUnread, IsRefusedBy, IsUnchanged, NotOpened, OpensTo}
use Rattle.explorer.specs.Stores.{IsSized, OnlyHost}
use Rattle.explorer.specs.World.{World}

-- ---- what is asked of the host

-- A disk was handed out, and then a scratch file. They came to this, and were given back, the file
-- first. Nothing else was asked of the host.
pub record UsesSpill (store name : List ℕ)
    (Does : DiskState → DiskState → Scratch → Scratch → Type 0) (before after : HostState)
    : Type 0 where
  pub disk : DiskState
  pub sized : IsSized disk
  pub opened : HostState
  pub hands_disk : HandsDisk store disk before opened
  pub port : Scratch
  pub given : HostState
  pub hands_port : HandsPort name port opened given
  pub disk_after : DiskState
  pub port_after : Scratch
  pub does : Does disk disk_after port port_after
  pub taken : HostState
  pub takes_port : TakesPort name port_after given taken
  pub takes_disk : TakesDisk store disk_after taken after

-- a disk was handed out, the scratch file was refused, and the disk was given back as it was
pub record LacksSpill (store name : List ℕ) (before after : HostState) : Type 0 where
  pub disk : DiskState
  pub opened : HostState
  pub hands : HandsDisk store disk before opened
  pub refused : HostState
  pub refuses : RefusesPort name opened refused
  pub takes : TakesDisk store disk refused after

-- a name was refused: that of the store, before the scratch file is asked for, or that of the file
abbrev pub LacksName : (store name refused : List ℕ) → HostState → HostState → Type 0
LacksName store name refused before after =
    ((refused ≡ store) × RefusesDisk store before after)
    ⊎ ((refused ≡ name) × LacksSpill store name before after)

-- ---- what a disk and a scratch file come to

-- the disk came to this, and no call of the file failed
abbrev pub OnDisk : (DiskState → DiskState → Type 0) → DiskState → DiskState → Scratch → Scratch
    → Type 0
OnDisk Does handed returned before after =
    Does handed returned × (after.faults ≡ before.faults)

-- the store was opened, and the file has the rows of its journal, one part a batch, as far as it
-- tells its bytes
pub record Spills (journal : List Batch) (handed returned : DiskState) (before after : Scratch)
    : Type 0 where
  pub opens : OpensTo journal handed returned
  pub set : List CountedSpan
  pub whole : journal_of set ≡ journal
  pub lone : AreLone set
  pub holds : HasJust after (set_bytes set)
  pub calm : after.faults ≡ before.faults

-- This was found of the journal, where the file tells its bytes. Whatever is read, the lines of an
-- answer are legal moves in SAN, and its games have tags that a game can have.
pub record FindsIn (journal : List Batch) (query : Query) (found : Found)
    (handed returned : DiskState) (before after : Scratch) : Type 0 where
  pub spills : Spills journal handed returned before after
  pub sound : IsSoundAnswer query.at found
  pub is_found : IfSome after.appended (λ _. IsFound journal query found)

-- a call of the file failed; nothing was written to the disk, and no call of it failed
pub record FailsToSpill (handed returned : DiskState) (before after : Scratch) : Type 0 where
  pub unchanged : IsUnchanged handed returned
  pub rises : Rises before.faults after.faults

-- what was read of the part of a batch are no rows; a file that tells its bytes has no such part
pub record IsDamagedIn (part : ℕ) (handed returned : DiskState) (before after : Scratch)
    : Type 0 where
  pub journal : List Batch
  pub spills : Spills journal handed returned before after
  pub among : part < length journal
  pub untold : after.appended ≡ None

-- ---- the endings

-- what is found was written as a line, with the openings of the book
pub record AnswersSpilled (Wrote : List ℕ → Type 0) (store name : List ℕ) (query : Query)
    (book : List NamedPosition) (before after : World) : Type 0 where
  pub journal : List Batch
  pub found : Found
  pub finds : UsesSpill store name (FindsIn journal query found) before.host after.host
  pub naming : Naming
  pub is_naming : IsNamingOf book query found naming
  pub wrote : Wrote (answer_line found naming)
  pub rest : after ≡ record before { output = after.output; host = after.host }

-- the store is refused, and nothing else is done
abbrev pub RefusesSpilled : LogFault → (store name : List ℕ) → World → World → Type 0
RefusesSpilled fault store name before after =
    UsesSpill store name (OnDisk (IsRefusedBy fault)) before.host after.host
    × OnlyHost before after

-- an answer to a query by a book, by its ending; no other can be
abbrev pub SpillsBy : (store name : List ℕ) → Query → List NamedPosition → World → World → Ending
    → Type 0
SpillsBy store name query book before after Done =
    AnswersSpilled (λ line. Takes line before.output after.output) store name query book
    before after
SpillsBy store name query book before after (Stopped WriteFault) =
    AnswersSpilled (λ line. FailsToTake line before.output after.output) store name query book
    before after
SpillsBy store name query book before after (Stopped NotAStore) =
    RefusesSpilled log.NotALog store name before after
SpillsBy store name query book before after (Stopped (OtherFormat number)) =
    RefusesSpilled (log.OtherFormat number) store name before after
SpillsBy store name query book before after (Stopped (Damaged gate)) =
    RefusesSpilled (log.Damaged gate) store name before after
SpillsBy store name query book before after (Stopped DiskFault) =
    UsesSpill store name (OnDisk FailsUnread) before.host after.host
    × Rises before.host.disk_faults after.host.disk_faults × OnlyHost before after
SpillsBy store name query book before after (Stopped (CannotOpen refused)) =
    LacksName store name (string_bytes refused) before.host after.host × OnlyHost before after
SpillsBy store name query book before after (Stopped SpillFault) =
    UsesSpill store name FailsToSpill before.host after.host
    × Rises before.host.port_faults after.host.port_faults × OnlyHost before after
SpillsBy store name query book before after (Stopped (SpillDamaged part)) =
    UsesSpill store name (IsDamagedIn part) before.host after.host × OnlyHost before after
SpillsBy store name query book before after (Stopped OutOfMemory) =
    UsesSpill store name (OnDisk IsUnchanged) before.host after.host × OnlyHost before after
SpillsBy store name query book before after (Stopped _) = ⊥

-- ---- bridge: what the code comes to on the way

-- the line that answers a query by rows that are read back, or why there is none
abbrev pub ReadsThrough : List NamedPosition → Query → List CountedSpan → Scratch → Scratch
    → Result (Vec ℕ Global) SpillOpenFault → Type 0
ReadsThrough book query set old new (Ok line) =
    (found : Found) × IsSoundAnswer query.at found
    × (Holds set old → IsFound (journal_of set) query found)
    × IsLineOf book query found line × (new ≡ old)
ReadsThrough book query set old new (Err (Store fault)) =
    (fault ≡ opening.OutOfMemory) × (new ≡ old)
ReadsThrough book query set old new (Err (Port (ports.Damaged part))) =
    (part < length set) × (Holds set old → ⊥) × (new ≡ old)
ReadsThrough book query set old new (Err (Port (ports.ReadFault before after))) =
    Rises old.faults new.faults
ReadsThrough book query set old new (Err (Port (ports.WriteFault before after))) = ⊥

-- the line that answers a query over the store on a disk, or why there is none
abbrev pub SpillsTo : List NamedPosition → Query → DiskState → DiskState → Scratch → Scratch
    → Result (Vec ℕ Global) SpillOpenFault → Type 0
SpillsTo book query handed returned before after (Ok line) =
    (journal : List Batch) × (found : Found)
    × FindsIn journal query found handed returned before after × IsLineOf book query found line
SpillsTo book query handed returned before after (Err (Store fault)) =
    OnDisk (NotOpened fault) handed returned before after
SpillsTo book query handed returned before after (Err (Port (ports.Damaged part))) =
    IsDamagedIn part handed returned before after
SpillsTo book query handed returned before after (Err (Port _)) =
    FailsToSpill handed returned before after

-- Why a store is not opened through a scratch file, by how many calls of its disk have failed before
-- and after.
abbrev pub FirstSpillCause : ℕ → ℕ → SpillOpenFault → SpillOpenFault → Type 0
FirstSpillCause before after (Store found) (Store told) = FirstCause before after found told
FirstSpillCause before after (Store found) (Port told) = ⊥
FirstSpillCause before after (Port found) told = told ≡ Port found

-- Statement: how a run of the command `serve` ends.
pub mod Served
pub mod Serving
pub mod Workers
pub mod Concluding
use Rattle.std.specs.Prelude.{◌≡◌, ◌⊎◌, ℕ, ◌≤◌, List, [], ◌∷◌, ◌++◌, length, map, string_bytes, Option, None, Some, IfSome, codes}
use Rattle.std.specs.List.{AllZip}
use Rattle.outside.specs.Stream.{Rises, Writes}
use Rattle.host.specs.Hosts.{DoorsRefused, FileRefused, GivesBack, HostCall, HostState, RefusesDisk}
use Rattle.explorer_model.specs.declared.archive.Batch.{Batch}
use Rattle.explorer_model.specs.declared.store.LogFault.{LogFault}
use Rattle.explorer_model.specs.declared.store.LogFault.TheVariants as logs
use Rattle.explorer_model.specs.Journal.{IsSound}
use Rattle.explorer_model.specs.Timeline.{IsPrefix}
use Rattle.manifest.specs.Manifest.{HasJournal}
use Rattle.ingest_desk.specs.Openings.{IsWrong}
use Rattle.explorer.specs.declared.fault.Fault.{Fault}
use Rattle.explorer.specs.declared.fault.Fault.TheVariants.{CannotAccept, CannotOpen, Damaged, DiskFault, Full, NotAStore, OtherFormat, OutOfMemory, ReadFault, TooMuchInput, WriteFault}
use Rattle.explorer.specs.Lines.{Ending, Done, Stopped}
use Rattle.explorer.specs.Serve.Served.{DoorRun, DrewFrom, FileRun, FindsFull, IsGivenUp, IsKeptIn, IsSeenIn, IsServedIn, IsStoredIn, IsWorked, Service, drawn_in, file_at, first_fault, serve_report}
use Rattle.explorer.specs.World.{World, IsFaultless, WriteFails}

-- ---- what is written

abbrev pub listening_line : List ℕ → List ℕ
listening_line address = codes "listening " ++ address ++ codes "\n"

-- nothing is read or written
abbrev pub IsSilent : World → World → Type 0
IsSilent before after = after ≡ record before { host = after.host }

-- the address was told, and nothing was read
pub record Listens (service : Service) (before after : World) : Type 0 where
  pub input : after.input ≡ before.input
  pub output : Writes (listening_line service.address ∷ []) before.output after.output

-- what is refused of the files was reported
abbrev pub Reports : Service → List FileRun → World → World → Type 0
Reports service files before after =
    Writes (serve_report service.files files ∷ []) before.errors after.errors

-- or, where memory was wanting for that, nothing was
abbrev pub MayReport : Service → List FileRun → World → World → Type 0
MayReport service files before after =
    Reports service files before after ⊎ (after.errors ≡ before.errors)

-- ---- the endings

-- Nothing else stands in the journal: each of its batches was there before, or its place was drawn by
-- the drawer of one file or door. Behind them may stand one in whose commit a call of the disk failed.
pub record IsShared (opening journal : List Batch) (files : List FileRun) (doors : List DoorRun)
    : Type 0 where
  pub stored : List Batch
  pub failed : List Batch
  pub journal_is : journal ≡ stored ++ failed
  pub few : length failed ≤ 1
  pub drawn : DrewFrom (length opening) (length stored) (drawn_in files doors)

-- The disk given back has a sound journal that begins with the one that it had, so that it is opened
-- again. All that was stored of the files stands in it, and nothing but that and what was stored at
-- the doors; a file that found no room found none in it, and all that any reader saw is a front of it.
pub record GoesOn (service : Service) (before after : HostState)
    (worked : IsWorked service before after) : Type 0 where
  pub journal : List Batch
  pub sound : IsSound journal
  pub tells : IfSome (after.disks service.store) (HasJournal journal)
  pub extends : IsPrefix worked.opening journal
  pub shared : IsShared worked.opening journal worked.files worked.doors
  pub kept : AllZip (IsKeptIn journal) (map (file_at before) service.files) worked.files
  pub full : AllZip (FindsFull journal) (map (file_at before) service.files) worked.files
  pub seen : AllZip (IsSeenIn service.book worked.opening journal) worked.handed worked.doors

-- Doors were served, no call of the store's disk failed, so that no batch did, and this was the first
-- fault of the workers.
pub record IsWorkedTo (service : Service) (fault : Option Fault) (before after : World)
    : Type 0 where
  pub worked : IsWorked service before.host after.host
  pub goes_on : GoesOn service before.host after.host worked
  pub listens : Listens service before after
  pub first : fault ≡ first_fault worked.files worked.doors
  pub disk : after.host.disk_faults ≡ before.host.disk_faults
  pub none_failed : goes_on.shared.failed ≡ []

-- this was the first fault of the workers, with the report or with nothing reported
pub record FailsBy (service : Service) (fault : Fault) (before after : World) : Type 0 where
  pub to : IsWorkedTo service (Some fault) before after
  pub reports : MayReport service to.worked.files before after

-- No worker had a fault. Each file is stored in the journal of the disk given back, and no door has
-- a connection left.
pub record IsServed (service : Service) (before after : World) : Type 0 where
  pub to : IsWorkedTo service None before after
  pub stored : AllZip (IsStoredIn to.goes_on.journal) (map (file_at before.host) service.files)
      to.worked.files
  pub served : AllZip (IsServedIn service.book to.worked.opening to.goes_on.journal)
      to.worked.handed to.worked.doors

-- and what is refused of the files was reported
pub record ServesAll (service : Service) (before after : World) : Type 0 where
  pub served : IsServed service before after
  pub reports : Reports service served.to.worked.files before after

-- the call is noted, or it is not
abbrev pub IsMaybe : HostCall → List HostCall → Type 0
IsMaybe call calls = (calls ≡ []) ⊎ (calls ≡ call ∷ [])

-- the store is one, and its journal is sound
pub record HasStore (service : Service) (host : HostState) : Type 0 where
  pub journal : List Batch
  pub told : IfSome (host.disks service.store) (HasJournal journal)
  pub sound : IsSound journal

-- the file of this name was refused, behind those of these names
pub record RefusesOneFile (service : Service) (name : List ℕ) (before after : HostState)
    : Type 0 where
  pub store : HasStore service before
  pub names : List (List ℕ)
  pub next : IsPrefix (names ++ name ∷ []) service.files
  pub refusal : List HostCall
  pub noted : IsMaybe (FileRefused name) refusal
  pub given_up : IsGivenUp service names refusal before after
  pub rises : Rises before.own_faults after.own_faults

-- the doors were refused
pub record RefusesAddress (service : Service) (before after : HostState) : Type 0 where
  pub store : HasStore service before
  pub refusal : List HostCall
  pub noted : IsMaybe (DoorsRefused service.address service.readers service.connections) refusal
  pub given_up : IsGivenUp service service.files refusal before after
  pub rises : Rises before.own_faults after.own_faults

-- what has this name was refused: the store, else a file, else the doors
abbrev pub IsRefused : Service → List ℕ → HostState → HostState → Type 0
IsRefused service name before after =
    ((name ≡ service.store) × RefusesDisk service.store before after)
    ⊎ (RefusesOneFile service name before after
    ⊎ ((name ≡ service.address) × RefusesAddress service before after))

-- what the disk tells is no store
pub record HasNoStore (service : Service) (fault : LogFault) (before after : World) : Type 0 where
  pub wrong : IfSome (before.host.disks service.store) (IsWrong fault)
  pub given_up : IsGivenUp service [] [] before.host after.host
  pub silent : IsSilent before after
  pub disk : after.host.disk_faults ≡ before.host.disk_faults

-- calls of the store's disk failed while doors were served
pub record DiskFailsLate (service : Service) (before after : World) : Type 0 where
  pub worked : IsWorked service before.host after.host
  pub goes_on : GoesOn service before.host after.host worked
  pub listens : Listens service before after
  pub reports : MayReport service worked.files before after

-- calls of the store's disk failed: while it was opened, or while doors were served
abbrev pub DiskFails : Service → World → World → Type 0
DiskFails service before after =
    Rises before.host.disk_faults after.host.disk_faults
    × ((IsGivenUp service [] [] before.host after.host × IsSilent before after)
    ⊎ DiskFailsLate service before after)

-- memory was wanting before doors were handed out, no call of the store's disk failed, and nothing
-- was refused
pub record LacksRoom (service : Service) (before after : World) : Type 0 where
  pub names : List (List ℕ)
  pub front : IsPrefix names service.files
  pub given_up : IsGivenUp service names [] before.host after.host
  pub silent : IsSilent before after
  pub disk : after.host.disk_faults ≡ before.host.disk_faults
  pub own : after.host.own_faults ≡ before.host.own_faults

-- doors were served without a fault, and memory was wanting for the lines of what is refused
pub record LacksLines (service : Service) (before after : World) : Type 0 where
  pub served : IsServed service before after
  pub errors : after.errors ≡ before.errors

-- memory was wanting: before doors were handed out, or for a worker, or for the lines alone
abbrev pub LacksMemory : Service → World → World → Type 0
LacksMemory service before after =
    LacksRoom service before after
    ⊎ (FailsBy service OutOfMemory before after ⊎ LacksLines service before after)

-- a run of `serve`, by its ending; no other can be
abbrev pub ServesBy : Service → World → World → Ending → Type 0
ServesBy service before after Done = ServesAll service before after × IsFaultless before after
ServesBy service before after (Stopped WriteFault) =
    ServesAll service before after × WriteFails before after
ServesBy service before after (Stopped ReadFault) =
    FailsBy service ReadFault before after
    × Rises before.host.file_faults after.host.file_faults
ServesBy service before after (Stopped (Full games bytes)) =
    FailsBy service (Full games bytes) before after
ServesBy service before after (Stopped TooMuchInput) = FailsBy service TooMuchInput before after
ServesBy service before after (Stopped CannotAccept) =
    FailsBy service CannotAccept before after
    × Rises before.host.door_faults after.host.door_faults
ServesBy service before after (Stopped DiskFault) = DiskFails service before after
ServesBy service before after (Stopped NotAStore) = HasNoStore service logs.NotALog before after
ServesBy service before after (Stopped (OtherFormat number)) =
    HasNoStore service (logs.OtherFormat number) before after
ServesBy service before after (Stopped (Damaged gate)) =
    HasNoStore service (logs.Damaged gate) before after
ServesBy service before after (Stopped (CannotOpen name)) =
    IsRefused service (string_bytes name) before.host after.host × IsSilent before after
ServesBy service before after (Stopped OutOfMemory) = LacksMemory service before after
ServesBy service before after (Stopped _) = ⊥

-- A run of `serve`, by its ending. The host has all back that it handed out.
pub record Serves (service : Service) (before after : World) (ending : Ending) : Type 0 where
  pub by : ServesBy service before after ending
  pub gives_back : GivesBack before.host after.host

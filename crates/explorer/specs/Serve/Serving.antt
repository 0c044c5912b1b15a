-- Bridge: how far the serving of a store has come, between the calls of the host.
use Rattle.std.specs.Prelude.{◌≡◌, ⊤, ◌<◌, ◌≤◌, ◌+◌, ℕ, List, [], ◌∷◌, ◌++◌, length, map, sum_by, string_bytes, Option, None, Some, IfSome, Result, Ok, Err, String, Vec}
use Rattle.std.specs.Global.{Global}
use Rattle.std.specs.List.{AllZip}
use Rattle.outside.specs.Doors.{Connections}
use Rattle.outside.specs.Stream.{FailsToTake, Rises, Stream, Takes}
use Rattle.host.specs.Hosts.{AreFresh, DoorBack, DoorsOut, DoorsRefused, FileOut, FileRefused, HostCall, HostState, Thing, added, handed, out}
use Rattle.explorer_model.specs.declared.archive.Batch.{Batch}
use Rattle.explorer_model.specs.Openings.{NamedPosition}
use Rattle.explorer_model.specs.Timeline.{IsPrefix}
use Rattle.explorer.specs.declared.fault.Fault.{Fault}
use Rattle.explorer.specs.declared.fault.Fault.TheVariants.{CannotAccept, CannotOpen, OutOfMemory, ReadFault}
use Rattle.explorer.specs.declared.order.Order.{Order}
use Rattle.explorer.specs.declared.serve.serving.Outcome.{Outcome}
use Rattle.explorer.specs.declared.serve.serving.Outcome.TheVariants.{GivenUp, Worked}
use Rattle.explorer.specs.declared.serve.serving.Unserved.{Unserved}
use Rattle.explorer.specs.declared.serve.serving.Unserved.TheVariants.{NoFile, NoAddress, NoMemory}
use Rattle.explorer.specs.Serve.{IsMaybe}
use Rattle.explorer.specs.Serve.Served.{DoorRun, DrewFrom, FileRun, FindsFull, IsImported, IsKeptIn, IsSeenIn, IsServedFrom, IsServedIn, IsStoredIn, Service, drawn_in, file_at, files_back, files_out, first_fault, serve_report}
use Rattle.explorer.specs.Serve.Workers.{name_at}

abbrev pub service_of : Order → Service
service_of order = record {
  store = string_bytes order.store;
  address = string_bytes order.address;
  files = map string_bytes order.files.items;
  workers = order.workers.count;
  readers = order.readers;
  connections = order.connections;
  book = order.book;
}

-- ---- what is out

-- how many of a thing are out with files of these names and so many doors
abbrev pub due : Thing → List (List ℕ) → ℕ → ℕ
due thing names readers =
    sum_by (λ name. handed thing (FileOut name)) names + handed thing (DoorsOut [] readers 0)

abbrev pub AreOut : List (List ℕ) → ℕ → HostState → Type 0
AreOut names readers host =
    (thing : Thing) → IfSome host.calls (λ earlier. due thing names readers ≤ out thing earlier)

-- ---- workers over files and doors

abbrev pub lines_told : {E : Type 0} → Result (Vec ℕ Global) E → Option (List ℕ)
lines_told (Ok lines) = Some lines.items
lines_told (Err refused) = None

-- a count of the host rose where that is the first fault: a file came back with a read that failed,
-- or a door with an accept that did
pub record AreCounted (first : Option Fault) (before after : HostState) : Type 0 where
  pub files : first ≡ Some ReadFault → Rises before.file_faults after.file_faults
  pub doors : first ≡ Some CannotAccept → Rises before.door_faults after.door_faults

-- The workers did what they had to with the files of these names and these doors, by the book, and
-- all came back.
-- These are the first fault and the lines of what is refused; and the journal, which begins with all
-- that was told and seen, and has nothing behind the opening but what was drawn.
pub record WorksOver (book : List NamedPosition) (names : List (List ℕ))
    (opening journal : List Batch) (handed : List Connections) (first : Option Fault)
    (lines : Option (List ℕ)) (before after : HostState) : Type 0 where
  pub files : List FileRun
  pub imported : AllZip IsImported (map (file_at before) names) files
  pub doors : List DoorRun
  pub served : AllZip (IsServedFrom book opening) handed doors
  pub calls : after.calls ≡ added (files_back names (map (λ run. run.file) files)
      ++ map (λ run. DoorBack run.connections) doors) before.calls
  pub disks : after.disks ≡ before.disks
  pub disk_faults : after.disk_faults ≡ before.disk_faults
  pub first_is : first ≡ first_fault files doors
  pub counted : AreCounted first before after
  pub lines_are : IfSome lines (λ lines. lines ≡ serve_report names files)
  pub kept : AllZip (IsKeptIn journal) (map (file_at before) names) files
  pub stored : first ≡ None → AllZip (IsStoredIn journal) (map (file_at before) names) files
  pub served_in : first ≡ None → AllZip (IsServedIn book opening journal) handed doors
  pub seen : AllZip (IsSeenIn book opening journal) handed doors
  pub full : AllZip (FindsFull journal) (map (file_at before) names) files
  pub drawn : DrewFrom (length opening) (length journal) (drawn_in files doors)

-- ---- files and doors are asked for, and come back

-- the place of a file that was refused is one of a name
abbrev pub IsPlaced : Service → Unserved → Type 0
IsPlaced service (NoFile at) = at < length service.files
IsPlaced service NoAddress = ⊤
IsPlaced service NoMemory = ⊤

-- the fault that tells why nothing was served: it has the name that was refused
abbrev pub IsToldBy : Service → Unserved → Fault → Type 0
IsToldBy service (NoFile at) fault =
    (name : String Global) × (fault ≡ CannotOpen name)
    × (string_bytes name ≡ name_at service.files at)
IsToldBy service NoAddress fault =
    (name : String Global) × (fault ≡ CannotOpen name) × (string_bytes name ≡ service.address)
IsToldBy service NoMemory fault = fault ≡ OutOfMemory

-- why no door was handed out, where files of these names were
abbrev pub GivesUpFor : Service → List (List ℕ) → List HostCall → Unserved → HostState → HostState
    → Type 0
GivesUpFor service names refusal (NoFile at) before after =
    Rises before.own_faults after.own_faults
    × IsPrefix (names ++ name_at service.files at ∷ []) service.files
    × IsMaybe (FileRefused (name_at service.files at)) refusal
GivesUpFor service names refusal NoAddress before after =
    Rises before.own_faults after.own_faults × (names ≡ service.files)
    × IsMaybe (DoorsRefused service.address service.readers service.connections) refusal
GivesUpFor service names refusal NoMemory before after =
    (names ≡ service.files) × (refusal ≡ []) × (after.own_faults ≡ before.own_faults)

pub record HasGivenUp (service : Service) (why : Unserved) (before after : HostState) : Type 0 where
  pub names : List (List ℕ)
  pub refusal : List HostCall
  pub calls : after.calls ≡ added (files_back names (map (file_at before) names)
      ++ (refusal ++ files_out names)) before.calls
  pub disks : after.disks ≡ before.disks
  pub disk_faults : after.disk_faults ≡ before.disk_faults
  pub placed : IsPlaced service why
  pub cause : GivesUpFor service names refusal why before after

-- the doors were handed out and worked over with the files
pub record HasWorked (service : Service) (opening journal : List Batch) (first : Option Fault)
    (lines : Option (List ℕ)) (before after : HostState) : Type 0 where
  pub handed : List Connections
  pub are_fresh : AreFresh service.readers service.connections (before.links service.address) handed
  pub middle : HostState
  pub out : middle.calls ≡ added (DoorsOut service.address service.readers service.connections
      ∷ files_out service.files) before.calls
  pub files : middle.files ≡ before.files
  pub disks : middle.disks ≡ before.disks
  pub disk_faults : middle.disk_faults ≡ before.disk_faults
  pub file_faults : middle.file_faults ≡ before.file_faults
  pub door_faults : middle.door_faults ≡ before.door_faults
  pub over : WorksOver service.book service.files opening journal handed first lines middle after

-- what became of files and doors that were asked for
abbrev pub FilesServed : Service → List Batch → List Batch → Outcome
    → HostState → HostState → Type 0
FilesServed service opening journal (GivenUp why) before after =
    HasGivenUp service why before after
FilesServed service opening journal (Worked done) before after =
    HasWorked service opening journal done.first (lines_told done.lines) before after

abbrev pub IsGivenUpSo : Outcome → Type 0
IsGivenUpSo (GivenUp why) = ⊤
IsGivenUpSo (Worked done) = ⊥

-- the line was written, or could not be
abbrev pub WroteLine : {A E : Type 0} → List ℕ → Result A E → Stream → Stream → Type 0
WroteLine line (Ok written) old new = Takes line old new
WroteLine line (Err failed) old new = FailsToTake line old new

-- the address is told once the doors are there
abbrev pub ListensSo : List ℕ → Outcome → Stream → Stream → Type 0
ListensSo line (GivenUp why) old new = new ≡ old
ListensSo line (Worked done) old new = WroteLine line done.listens old new

-- Bridge: the workers of a store that is served, and what is known of them when they have returned.
use Rattle.std.specs.Prelude.{◌≡◌, ⊤, ◌<◌, ◌≤◌, ◌+◌, ℕ, List, [], ◌∷◌, ◌++◌, length, sum_by, slice_index_or, Option, None, Some, IfSome, IsSome}
use Rattle.std.specs.List.{AllZip, flat_map}
use Rattle.std.specs.Option.{option_or}
use Rattle.outside.specs.Doors.{Connections}
use Rattle.outside.specs.Stream.{Stream}
use Rattle.host.specs.Hosts.{DoorBack, FileBack, HostCall, HostState, RefusesFile, TakesDoor, TakesFile, Thing, added, out, returned}
use Rattle.explorer_model.specs.declared.archive.Batch.{Batch}
use Rattle.explorer_model.specs.Labels.{no_label}
use Rattle.explorer_model.specs.Openings.{NamedPosition}
use Rattle.explorer_model.specs.Timeline.{IsPrefix}
use Rattle.published_index.specs.Places.{Drawing, new_drawing, times}
use Rattle.published_index.specs.States.{Watching, watching}
use Rattle.ingest_desk.specs.Drawn.{DrawsFor, most_untold}
use Rattle.ingest_desk.specs.declared.report.Report.{Report}
use Rattle.ingest_desk.specs.Importers.{ImporterState, ending_of}
use Rattle.import_run.specs.EndingBeside.{ImportsBeside}
use Rattle.session.specs.Doors.{DoorServed, EndsDoor}
use Rattle.session.specs.Exchanges.{backend}
use Rattle.session.specs.Replies.{with_players}
use Rattle.session.specs.Steps.{KnowsEnd, KnowsNotes, KnowsReceipts}
use Rattle.explorer.specs.declared.fault.Fault.{Fault}
use Rattle.explorer.specs.declared.fault.Fault.TheVariants.{OutOfMemory}
use Rattle.explorer.specs.declared.serve.workers.FileWork.{FileWork}
use Rattle.explorer.specs.declared.serve.workers.ReaderWork.{ReaderWork}
use Rattle.explorer.specs.declared.serve.workers.Worker.{Worker}
use Rattle.explorer.specs.declared.serve.workers.Worker.TheVariants.{File, Reader, Merger}
use Rattle.explorer.specs.Serve.Served.{fault_of_door, fault_of_import, file_at, file_lines, files_out, importer_with}

-- ---- the work

-- a file was imported, its report is there, and its drawer drew what that tells
pub record ImportsFile {F J : Type 0} (source : F → Stream) (before after : FileWork F J)
    : Type 0 where
  pub report : Report J
  pub report_is : after.report ≡ Some report
  pub imports : ImportsBeside no_label (source before.source) (source after.source) report
  pub drawn : DrawsFor (most_untold (ending_of report.end)) report.receipts.items
      before.drawer after.drawer

-- The connections of a door were served with the openings of the book, by an importer that had the
-- reader's drawer.
pub record ServesDoor {G J : Type 0} (book : List NamedPosition) (door : G → Connections)
    (before after : ReaderWork G J) : Type 0 where
  pub lent : Drawing
  pub lent_is : before.drawer ≡ Some lent
  pub importer : ImporterState
  pub served : DoorServed (with_players book) (door before.door)
      (backend before.pass (importer_with lent))
      (door after.door) (backend after.pass importer)
  pub drawer : after.drawer ≡ Some importer.drawing
  pub ends : EndsDoor after.end (door before.door) (door after.door)

-- a worker did its work
abbrev pub Works : {F G J : Type 0} → List NamedPosition → (F → Stream) → (G → Connections)
    → Worker F G J → Worker F G J → Type 0
Works book source door (File before) (File after) = ImportsFile source before after
Works book source door (Reader before) (Reader after) = ServesDoor book door before after
Works book source door Merger Merger = ⊤
Works book source door _ _ = ⊥

-- a reader has its drawer before it begins
abbrev pub HasDrawer : {F G J : Type 0} → Worker F G J → Type 0
HasDrawer (File file) = ⊤
HasDrawer (Reader reader) = IsSome reader.drawer
HasDrawer Merger = ⊤

-- ---- the list

-- the files among workers, in their order
abbrev pub files_of : {F G J : Type 0} → List (Worker F G J) → List (FileWork F J)
files_of [] = []
files_of (File file ∷ workers) = file ∷ files_of workers
files_of (Reader reader ∷ workers) = files_of workers
files_of (Merger ∷ workers) = files_of workers

-- the readers among workers, in their order
abbrev pub readers_of : {F G J : Type 0} → List (Worker F G J) → List (ReaderWork G J)
readers_of [] = []
readers_of (File file ∷ workers) = readers_of workers
readers_of (Reader reader ∷ workers) = reader ∷ readers_of workers
readers_of (Merger ∷ workers) = readers_of workers

-- ---- how the work ended

abbrev pub fault_of_report : {J : Type 0} → Option (Report J) → Option Fault
fault_of_report None = Some OutOfMemory
fault_of_report (Some report) = fault_of_import (ending_of report.end)

-- why a worker did not come to its end
abbrev pub fault_of : {F G J : Type 0} → Worker F G J → Option Fault
fault_of (File file) = fault_of_report file.report
fault_of (Reader reader) = fault_of_door reader.end
fault_of Merger = None

-- the same of the first of workers of which there is something to say
abbrev pub fault_in : {F G J : Type 0} → List (Worker F G J) → Option Fault
fault_in [] = None
fault_in (worker ∷ workers) = option_or (fault_of worker) (fault_in workers)

-- ---- what was told

-- the journal begins with all that a report tells of what is published
abbrev pub HasReport : {J : Type 0} → List Batch → Option (Report J) → Type 0
HasReport journal None = ⊤
HasReport journal (Some report) =
    KnowsReceipts report.receipts.items journal × KnowsNotes report.clashes.items journal
    × KnowsEnd report.end journal

-- the journal begins with all that a worker was told of what is published, and saw
abbrev pub IsTold : {F G J : Type 0} → List Batch → Worker F G J → Type 0
IsTold journal (File file) = HasReport journal file.report
IsTold journal (Reader reader) = IsPrefix reader.pass.seen journal
IsTold journal Merger = ⊤

-- a reader is among workers
abbrev pub HasReader : {F G J : Type 0} → List (Worker F G J) → Type 0
HasReader [] = ⊥
HasReader (File file ∷ workers) = HasReader workers
HasReader (Reader reader ∷ workers) = ⊤
HasReader (Merger ∷ workers) = HasReader workers

-- a reader stands behind each file
abbrev pub HaveReaders : {F G J : Type 0} → List (Worker F G J) → Type 0
HaveReaders [] = ⊤
HaveReaders (File file ∷ workers) = HasReader workers × HaveReaders workers
HaveReaders (Reader reader ∷ workers) = HaveReaders workers
HaveReaders (Merger ∷ workers) = HaveReaders workers

-- a pass is there for the report of a file
abbrev pub IsHeard : {F G J : Type 0} → Option Watching → Worker F G J → Type 0
IsHeard pass (File file) = IsSome pass
IsHeard pass (Reader reader) = ⊤
IsHeard pass Merger = ⊤

-- ---- what was drawn

-- the drawer that a reader has, if it has it
abbrev pub drawings_by : Option Drawing → List Drawing
drawings_by None = []
drawings_by (Some drawing) = drawing ∷ []

-- the drawer of a worker, if it has one
abbrev pub drawings_of : {F G J : Type 0} → Worker F G J → List Drawing
drawings_of (File file) = file.drawer ∷ []
drawings_of (Reader reader) = drawings_by reader.drawer
drawings_of Merger = []

abbrev pub drawings_in : {F G J : Type 0} → List (Worker F G J) → List Drawing
drawings_in workers = flat_map drawings_of workers

-- a drawer gave a part to each of so many new drawers
pub record HasLent (count : ℕ) (old new : Drawing) : Type 0 where
  pub parts : new.parts + count ≡ old.parts
  pub drawn : new.drawn ≡ old.drawn

-- how many parts these have, and the places that they drew
abbrev pub parts_of : List Drawing → ℕ
parts_of [] = 0
parts_of (drawing ∷ drawings) = drawing.parts + parts_of drawings

abbrev pub places_of : List Drawing → List ℕ
places_of drawings = flat_map (λ drawing. drawing.drawn) drawings

-- a drawer got all that these had
pub record HasTaken (others : List Drawing) (old new : Drawing) : Type 0 where
  pub parts : new.parts ≡ old.parts + parts_of others
  pub drawn : (x : ℕ) → times x new.drawn ≡ times x old.drawn + times x (places_of others)

-- ---- what goes back

-- the name that stands at a place; past the last there is none
abbrev pub name_at : List (List ℕ) → ℕ → List ℕ
name_at names at = slice_index_or names at []

-- what a worker holds is given back, a file under the name
abbrev pub TakesWorker : {F G J : Type 0} → (F → Stream) → (G → Connections) → List ℕ
    → Worker F G J → HostState → HostState → Type 0
TakesWorker source door name (File file) before after =
    TakesFile name (source file.source) before after
TakesWorker source door name (Reader reader) before after =
    TakesDoor (door reader.door) before after
TakesWorker source door name Merger before after = after ≡ before

-- the call by which that is done
abbrev pub call_of : {F G J : Type 0} → (F → Stream) → (G → Connections) → List ℕ
    → Worker F G J → List HostCall
call_of source door name (File file) = FileBack name (source file.source) ∷ []
call_of source door name (Reader reader) = DoorBack (door reader.door) ∷ []
call_of source door name Merger = []

-- workers are given back that stand at this place of the list and behind it, the last first; the
-- file of each place has the name of that place
abbrev pub GivenBack : {F G J : Type 0} → (F → Stream) → (G → Connections) → List (List ℕ) → ℕ
    → List (Worker F G J) → HostState → HostState → Type 0
GivenBack source door names at [] before after = after ≡ before
GivenBack source door names at (worker ∷ workers) before after =
    (next : HostState) × GivenBack source door names (at + 1) workers before next
    × TakesWorker source door (name_at names at) worker next after

-- the calls by which that is done, the newest first
abbrev pub calls_of : {F G J : Type 0} → (F → Stream) → (G → Connections) → List (List ℕ) → ℕ
    → List (Worker F G J) → List HostCall
calls_of source door names at [] = []
calls_of source door names at (worker ∷ workers) =
    call_of source door (name_at names at) worker ++ calls_of source door names (at + 1) workers

-- each file stands at the place of a name
abbrev pub AreNamed : {F G J : Type 0} → List (List ℕ) → ℕ → List (Worker F G J) → Type 0
AreNamed names at [] = ⊤
AreNamed names at (File file ∷ workers) =
    (at < length names) × AreNamed names (at + 1) workers
AreNamed names at (Reader reader ∷ workers) = AreNamed names (at + 1) workers
AreNamed names at (Merger ∷ workers) = AreNamed names (at + 1) workers

-- as much of each thing is out as these calls give back
abbrev pub CanReturn : List HostCall → HostState → Type 0
CanReturn calls host =
    (thing : Thing)
    → IfSome host.calls (λ earlier. sum_by (returned thing) calls ≤ out thing earlier)

-- ---- what is handed out

-- the worker has the file as it stands under the name, and a new drawer
abbrev pub IsFileOf : {F G J : Type 0} → (F → Stream) → HostState → List ℕ → Worker F G J → Type 0
IsFileOf source host name (File file) =
    (source file.source ≡ file_at host name) × (file.drawer ≡ new_drawing)
IsFileOf source host name _ = ⊥

-- the files of these names were handed out, one to each worker
pub record FilesOut {F G J : Type 0} (source : F → Stream) (names : List (List ℕ))
    (workers : List (Worker F G J)) (before after : HostState) : Type 0 where
  pub files : AllZip (IsFileOf source before) names workers
  pub rest : after ≡ record before { calls = added (files_out names) before.calls }

-- the files of some of these names were, and the next one was refused
pub record FilesRefused {F G J : Type 0} (source : F → Stream) (names : List (List ℕ))
    (workers : List (Worker F G J)) (before after : HostState) : Type 0 where
  pub front : List (List ℕ)
  pub name : List ℕ
  pub next : IsPrefix (front ++ name ∷ []) names
  pub at : name ≡ name_at names (length workers)
  pub middle : HostState
  pub handed : FilesOut source front workers before middle
  pub refused : RefusesFile name middle after

-- the worker has the door, a pass that has seen the journal, and a new drawer
abbrev pub IsReaderOf : {F G J : Type 0} → (G → Connections) → List Batch → Connections
    → Worker F G J → Type 0
IsReaderOf door opening handed (Reader reader) =
    (door reader.door ≡ handed) × (reader.pass ≡ watching opening)
    × (reader.drawer ≡ Some new_drawing)
IsReaderOf door opening handed _ = ⊥

-- readers of these doors and one worker that merges stand behind others
pub record HasReaders {F G J : Type 0} (door : G → Connections) (opening : List Batch)
    (handed : List Connections) (others all : List (Worker F G J)) : Type 0 where
  pub readers : List (Worker F G J)
  pub are : all ≡ others ++ (readers ++ Merger ∷ [])
  pub are_readers : AllZip (IsReaderOf door opening) handed readers

-- workers for the files of these names, for these doors, and for merging
pub record AreWorkersFor {F G J : Type 0} (source : F → Stream) (door : G → Connections)
    (names : List (List ℕ)) (host : HostState) (opening : List Batch) (handed : List Connections)
    (workers : List (Worker F G J)) : Type 0 where
  pub files : List (Worker F G J)
  pub readers : List (Worker F G J)
  pub are : workers ≡ files ++ (readers ++ Merger ∷ [])
  pub are_files : AllZip (IsFileOf source host) names files
  pub are_readers : AllZip (IsReaderOf door opening) handed readers

-- ---- what is reported

abbrev pub lines_of_report : {J : Type 0} → List ℕ → Option (Report J) → List ℕ
lines_of_report name None = []
lines_of_report name (Some report) = file_lines name report.refused.items

abbrev pub lines_of : {F G J : Type 0} → List ℕ → Worker F G J → List ℕ
lines_of name (File file) = lines_of_report name file.report
lines_of name (Reader reader) = []
lines_of name Merger = []

-- the lines of workers, of which the first ones have these names
abbrev pub lines_in : {F G J : Type 0} → List (List ℕ) → List (Worker F G J) → List ℕ
lines_in (name ∷ names) (worker ∷ workers) = lines_of name worker ++ lines_in names workers
lines_in _ _ = []

-- Statement: what files and doors come to while a store is served, and what is asked of the host.
use Rattle.std.specs.Prelude.{◌≡◌, ◌≢◌, ⊤, ◌+◌, ◌<◌, ℕ, List, [], ◌∷◌, ◌++◌, length, map, reverse, Option, None, Some, IfSome, codes}
use Rattle.std.specs.List.{All, AllZip, flat_map}
use Rattle.std.specs.Option.{option_or}
use Rattle.std.specs.Io.KnownBytes.{IsAtEnd}
use Rattle.outside.specs.Doors.{Connections}
use Rattle.outside.specs.Stream.{Reads, Rises, Stream, source_alone}
use Rattle.host.specs.Hosts.{AreFresh, DiskBack, DiskOut, DoorBack, DoorsOut, FileBack, FileOut, HostCall, HostState, added}
use Rattle.explorer_model.specs.declared.archive.Batch.{Batch}
use Rattle.explorer_model.specs.declared.fault.Refusal.{Refusal}
use Rattle.explorer_model.specs.Cuts.{cuts}
use Rattle.explorer_model.specs.Labels.{no_label}
use Rattle.explorer_model.specs.Imports.{AccountedBeside, Candidate, groups}
use Rattle.explorer_model.specs.Journal.{IsSound, input_limit}
use Rattle.explorer_model.specs.Openings.{NamedPosition}
use Rattle.explorer_model.specs.Timeline.{IsPrefix}
use Rattle.manifest.specs.Manifest.{HasJournal}
use Rattle.published_index.specs.Places.{Drawing, new_drawing, once_below, times}
use Rattle.published_index.specs.States.{watching}
use Rattle.ingest_desk.specs.Drawn.{most_untold}
use Rattle.ingest_desk.specs.Importers.{ImporterState}
use Rattle.ingest_desk.specs.Lives.{StandFrom}
use Rattle.ingest_desk.specs.Reporting.{BreaksAt, FindsNoRoom}
use Rattle.ingest_desk.specs.declared.report.ImportEnding.{ImportEnding}
use Rattle.ingest_desk.specs.declared.report.ImportEnding.TheVariants as endings
use Rattle.import_run.specs.Ending.{MayRise}
use Rattle.import_run.specs.EndingBeside.{BreaksBeside, IsCutBeside, IsTooMuchBeside, LacksBeside}
use Rattle.session.specs.declared.doors.DoorEnd.{DoorEnd}
use Rattle.session.specs.declared.doors.DoorEnd.TheVariants as ends
use Rattle.session.specs.Doors.{DoorServed, EndsDoor}
use Rattle.session.specs.Exchanges.{Backend, backend}
use Rattle.session.specs.Imports.{DrewPlacesOf, HasNoRoom, HasStoredBody, IsRepeatOf}
use Rattle.session.specs.Replies.{with_players}
use Rattle.explorer.specs.declared.fault.Fault.{Fault}
use Rattle.explorer.specs.declared.fault.Fault.TheVariants.{CannotAccept, OutOfMemory}
use Rattle.explorer.specs.Faults.{fault_at}
use Rattle.explorer.specs.Report.{report_line}

-- ---- what is asked for

-- a store that is served at an address while files are imported into it, and the book by which
-- answers are named
pub record Service : Type 0 where
  pub store : List ℕ
  pub address : List ℕ
  pub files : List (List ℕ)
  pub workers : ℕ
  pub readers : ℕ
  pub connections : ℕ
  pub book : List NamedPosition

-- ---- files

-- What a file came to: the file as it came back, how its import ended, what of it is refused, and what
-- its drawer drew.
pub record FileRun : Type 0 where
  pub file : Stream
  pub ending : ImportEnding
  pub refused : List Refusal
  pub drawing : Drawing

-- The groups of what was read are accounted so far by batches and by what is refused: all where a
-- read failed or the bound was met, but for the one that was in hand; else those before the whole
-- group at which the import ended.
abbrev pub AccountsSo : ImportEnding → List ℕ → Option (List ℕ) → List Batch → List Refusal
    → Type 0
AccountsSo endings.Whole stream left_over batches refused =
    AccountedBeside no_label (groups (cuts stream)) batches refused
AccountsSo (endings.ReadFault before after) stream left_over batches refused =
    IsCutBeside no_label stream batches refused
AccountsSo (endings.TooMuch bytes) stream left_over batches refused =
    IsTooMuchBeside no_label stream batches refused
AccountsSo (endings.DiskFault before after) stream left_over batches refused =
    (left : List Candidate) × BreaksBeside no_label stream left_over batches refused left
AccountsSo (endings.Closed before after) stream left_over batches refused =
    (left : List Candidate) × BreaksBeside no_label stream left_over batches refused left
AccountsSo (endings.Full games bytes) stream left_over batches refused =
    (left : List Candidate) × BreaksBeside no_label stream left_over batches refused left
    × (journal : List Batch) × FindsNoRoom journal games bytes left
AccountsSo endings.OutOfMemory stream left_over batches refused =
    LacksBeside no_label stream left_over batches refused

-- How far the file was read, and whether a read failed. Behind a group at which the import ended one
-- may have failed.
abbrev pub ReadsSo : ImportEnding → List ℕ → Stream → Stream → Type 0
ReadsSo endings.Whole stream before after =
    IsAtEnd after.left × (length stream < input_limit)
    × (after.read_faults ≡ before.read_faults)
ReadsSo (endings.ReadFault from to) stream before after =
    (length stream < input_limit) × Rises before.read_faults after.read_faults
ReadsSo (endings.TooMuch bytes) stream before after =
    (bytes ≡ length stream) × (length stream ≡ input_limit)
    × (after.read_faults ≡ before.read_faults)
ReadsSo _ stream before after =
    (length stream < input_limit) × MayRise before.read_faults after.read_faults

-- a file was imported, and that ended so
pub record IsImported (file : Stream) (run : FileRun) : Type 0 where
  pub stream : List ℕ
  pub reads : Reads stream file run.file
  pub read_so : ReadsSo run.ending stream file run.file
  pub batches : List Batch
  pub accounts : AccountsSo run.ending stream run.file.left batches run.refused

-- The batches that the import of the file stored stand in the journal in their order, where its drawer
-- drew their places, and what is refused of it as a repeat repeats a game of the journal.
pub record IsKeptIn (journal : List Batch) (file : Stream) (run : FileRun) : Type 0 where
  pub imported : IsImported file run
  pub stand : StandFrom 0 journal imported.batches
  pub drawn : DrewPlacesOf (most_untold run.ending) journal imported.batches
      new_drawing run.drawing
  pub repeats : All (λ refusal. IsRepeatOf (cuts imported.stream) journal refusal.place refusal.why)
      run.refused

-- The file was read to its end. Batches that stand in the journal in their order account it
-- together with what is refused, and what is refused as a repeat repeats a game of the journal.
pub record IsStoredIn (journal : List Batch) (file : Stream) (run : FileRun) : Type 0 where
  pub whole : run.ending ≡ endings.Whole
  pub stream : List ℕ
  pub reads : Reads stream file run.file
  pub at_end : IsAtEnd run.file.left
  pub below : length stream < input_limit
  pub games : ℕ
  pub stored : HasStoredBody journal stream games run.refused

-- The import of the file found no room in the journal: some front of it has so many games and bytes,
-- and with what was left to be stored of a group of the file a limit would be passed.
pub record IsFullIn (journal : List Batch) (games bytes : ℕ) (file : Stream) (run : FileRun)
    : Type 0 where
  pub stream : List ℕ
  pub reads : Reads stream file run.file
  pub batches : List Batch
  pub left : List Candidate
  pub breaks : BreaksAt no_label (groups (cuts stream)) batches run.refused left
  pub no_room : HasNoRoom journal games bytes left

abbrev pub IsFullBy : ImportEnding → List Batch → Stream → FileRun → Type 0
IsFullBy (endings.Full games bytes) journal file run = IsFullIn journal games bytes file run
IsFullBy _ journal file run = ⊤

-- where the import of the file found no room, the journal has none for it
abbrev pub FindsFull : List Batch → Stream → FileRun → Type 0
FindsFull journal file run = IsFullBy run.ending journal file run

-- a file as it is handed out under a name
abbrev pub file_at : HostState → List ℕ → Stream
file_at host name = source_alone (host.files name) 0 0

-- each line has the file's name before it
abbrev pub file_lines : List ℕ → List Refusal → List ℕ
file_lines name refused =
    flat_map (λ refusal. name ++ (codes " " ++ report_line refusal.place refusal.why)) refused

-- the lines of all files, in the order of their names
abbrev pub serve_report : List (List ℕ) → List FileRun → List ℕ
serve_report (name ∷ names) (run ∷ runs) =
    file_lines name run.refused ++ serve_report names runs
serve_report _ _ = []

-- ---- doors

-- What a door came to: its connections as it came back, how its serving ended, and what its drawer
-- drew.
pub record DoorRun : Type 0 where
  pub connections : Connections
  pub end : DoorEnd
  pub drawing : Drawing

-- an importer of a connection that has imported nothing, with this drawer
abbrev pub importer_with : Drawing → ImporterState
importer_with drawing = record {
  counts = record { disk_faults = 0; closed = 0; full = 0 };
  calls = None;
  drawing = drawing;
}

abbrev pub new_importer : ImporterState
new_importer = importer_with new_drawing

-- The connections of the door were served with the openings of the book, by a pass that had seen the
-- journal, and what it had seen in the end begins with that. What was imported there was drawn.
pub record IsServedFrom (book : List NamedPosition) (opening : List Batch) (door : Connections)
    (run : DoorRun) : Type 0 where
  pub last : Backend
  pub served : DoorServed (with_players book) door (backend (watching opening) new_importer)
      run.connections last
  pub ends : EndsDoor run.end door run.connections
  pub drawn : run.drawing ≡ last.importer.drawing
  pub begins : IsPrefix opening last.pass.seen

-- and what was seen is a front of the journal
pub record IsSeenIn (book : List NamedPosition) (opening journal : List Batch)
    (door : Connections) (run : DoorRun) : Type 0 where
  pub from : IsServedFrom book opening door run
  pub front : IsPrefix from.last.pass.seen journal

-- and no connection is left
pub record IsServedIn (book : List NamedPosition) (opening journal : List Batch)
    (door : Connections) (run : DoorRun) : Type 0 where
  pub from : IsServedFrom book opening door run
  pub whole : run.end ≡ ends.Whole
  pub none_left : run.connections.left ≡ 0
  pub front : IsPrefix from.last.pass.seen journal

-- ---- what is drawn

-- the places that the drawers of files and doors drew
abbrev pub drawn_in : List FileRun → List DoorRun → List ℕ
drawn_in files doors =
    flat_map (λ run. run.drawing.drawn) files ++ flat_map (λ run. run.drawing.drawn) doors

-- each place from the first number on and below the last was drawn once, and no other
abbrev pub DrewFrom : ℕ → ℕ → List ℕ → Type 0
DrewFrom first last drawn = (x : ℕ) → once_below x first + times x drawn ≡ once_below x last

-- ---- calls of the host

-- files that come back under these names, the newest first
abbrev pub files_back : List (List ℕ) → List Stream → List HostCall
files_back (name ∷ names) (file ∷ files) = FileBack name file ∷ files_back names files
files_back _ _ = []

abbrev pub files_out : List (List ℕ) → List HostCall
files_out names = map FileOut (reverse names)

-- all calls of a run whose doors were served, the newest first
abbrev pub serve_calls : Service → List FileRun → List DoorRun → List HostCall
serve_calls service files doors =
    DiskBack service.store
    ∷ (files_back service.files (map (λ run. run.file) files)
    ++ (map (λ run. DoorBack run.connections) doors
    ++ DoorsOut service.address service.readers service.connections
    ∷ (files_out service.files ++ DiskOut service.store ∷ [])))

-- all calls of a run that opened the store and these files, was refused something or not, and gave
-- all back
abbrev pub opening_calls : Service → List (List ℕ) → List Stream → List HostCall → List HostCall
opening_calls service names files refusal =
    DiskBack service.store
    ∷ (files_back names files ++ (refusal ++ (files_out names ++ DiskOut service.store ∷ [])))

-- the disks of other names are as they were
abbrev pub KeepsOthers : List ℕ → HostState → HostState → Type 0
KeepsOthers store before after =
    (name : List ℕ) → name ≢ store → after.disks name ≡ before.disks name

-- No door was handed out: the store and the files of these names were, and came back as they were. All
-- disks are as they were.
pub record IsGivenUp (service : Service) (names : List (List ℕ)) (refusal : List HostCall)
    (before after : HostState) : Type 0 where
  pub called : after.calls
      ≡ added (opening_calls service names (map (file_at before) names) refusal) before.calls
  pub kept : after.disks service.store ≡ before.disks service.store
  pub others : KeepsOthers service.store before after

-- The doors were handed out and served over a sound journal, while the files were imported, and all
-- came back.
pub record IsWorked (service : Service) (before after : HostState) : Type 0 where
  pub opening : List Batch
  pub told : IfSome (before.disks service.store) (HasJournal opening)
  pub sound : IsSound opening
  pub files : List FileRun
  pub imported : AllZip IsImported (map (file_at before) service.files) files
  pub handed : List Connections
  pub are_fresh : AreFresh service.readers service.connections (before.links service.address) handed
  pub doors : List DoorRun
  pub served : AllZip (IsServedFrom service.book opening) handed doors
  pub called : after.calls ≡ added (serve_calls service files doors) before.calls
  pub others : KeepsOthers service.store before after

-- ---- how the work ended

-- why the import of a file did not come to its end; a fault of the disk is told by the disk
abbrev pub fault_of_import : ImportEnding → Option Fault
fault_of_import ending = fault_at OutOfMemory ending

abbrev pub fault_of_door : DoorEnd → Option Fault
fault_of_door ends.Whole = None
fault_of_door ends.AcceptFault = Some CannotAccept

abbrev pub fault_of_doors : List DoorRun → Option Fault
fault_of_doors [] = None
fault_of_doors (run ∷ runs) = option_or (fault_of_door run.end) (fault_of_doors runs)

-- the first fault: the files' before the doors'
abbrev pub first_fault : List FileRun → List DoorRun → Option Fault
first_fault [] doors = fault_of_doors doors
first_fault (run ∷ runs) doors = option_or (fault_of_import run.ending) (first_fault runs doors)

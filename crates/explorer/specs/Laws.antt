-- Laws: runs that can be told apart by nothing.
use Rattle.std.specs.Prelude.{◌≡◌, ◌≢◌, ◌⊎◌, ⊤, ◌<◌, ◌-◌, ◌^◌, ℕ, List, [], ◌∷◌, Option, None, Some, IfSome, IsSome, length}
use Rattle.std.specs.Io.KnownBytes.{append_known}
use Rattle.std.specs.List.{AllZip, Contains}
use Rattle.outside.specs.Doors.{Connections}
use Rattle.outside.specs.Stream.{Stream}
use Rattle.explorer_model.specs.Journal.{input_limit}
use Rattle.explorer_model.specs.declared.archive.Batch.{Batch}
use Rattle.explorer_model.specs.declared.fault.Refusal.{Refusal}
use Rattle.explorer_model.specs.declared.fault.Why.{Why}
use Rattle.explorer_model.specs.declared.fault.Why.TheVariants.{Repeated}
use Rattle.explorer_model.specs.declared.wire.Reply.TheVariants.{Found}
use Rattle.explorer_model.specs.Cuts.{Cut}
use Rattle.explorer_model.specs.Imports.{Candidate}
use Rattle.explorer_model.specs.Openings.{NamedPosition}
use Rattle.manifest.specs.Manifest.{HasJournal}
use Rattle.host.specs.Hosts.{DoorBack, FileBack, HostCall, put}
use Rattle.published_index.specs.States.{watching}
use Rattle.ingest_desk.specs.Reporting.{FindsNoRoom}
use Rattle.import_run.specs.Ending.{EndsIn}
use Rattle.session.specs.Doors.{AreServed}
use Rattle.session.specs.Exchanges.{Backend, Exchange, backend}
use Rattle.session.specs.Laws.{IsDrawnFor}
use Rattle.session.specs.Replies.{Offer, Route, with_players, route_of}
use Rattle.command_line.specs.Task.{Task, Count, Query, Serve}
use Rattle.explorer.specs.declared.fault.Fault.{Fault}
use Rattle.explorer.specs.Book.{LacksBook}
use Rattle.explorer.specs.Imported.{new_store}
use Rattle.explorer.specs.Serve.{GoesOn, Listens}
use Rattle.explorer.specs.Serve.Served.{DoorRun, FileRun, IsSeenIn, IsWorked, Service, new_importer, serve_calls}
use Rattle.explorer.specs.World.{World, SameStreams}

-- all bytes are told, of an input below the bound, and no count stands at its greatest number
pub record IsTold (stream : List ℕ) (world : World) : Type 0 where
  pub input : world.input.left ≡ Some stream
  pub below : length stream < input_limit
  pub output : IsSome world.output.written
  pub errors : IsSome world.errors.written
  pub reads : world.input.read_faults < 2 ^ 64 - 1
  pub writes : world.output.write_faults < 2 ^ 64 - 1
  pub reports : world.errors.write_faults < 2 ^ 64 - 1

-- the same was written
pub record WroteAlike (after other : World) : Type 0 where
  pub output : after.output.written ≡ other.output.written
  pub errors : after.errors.written ≡ other.errors.written

-- the report and the line behind it were written, or that line alone
abbrev pub WroteBehind : List ℕ → List ℕ → Stream → Stream → Type 0
WroteBehind report line before after =
    (after.written ≡ append_known (append_known before.written report) line)
    ⊎ (after.written ≡ append_known before.written line)

-- The same was written, but that one may have gone without the report, for which memory was wanting.
pub record WroteAlikeButReport (before after other : World) : Type 0 where
  pub output : after.output.written ≡ other.output.written
  pub report : List ℕ
  pub line : List ℕ
  pub first : WroteBehind report line before.errors after.errors
  pub second : WroteBehind report line before.errors other.errors

-- the words ask for a count, or for nothing
abbrev pub CountsAtMost : Option Task → Type 0
CountsAtMost None = ⊤
CountsAtMost (Some (Count query workers openings)) = ⊤
CountsAtMost (Some _) = ⊥

-- the name of the file of openings that is asked for, where one is
abbrev pub openings_of : Option Task → Option (List ℕ)
openings_of (Some (Count query workers openings)) = openings
openings_of (Some (Query store query workers openings spill)) = openings
openings_of (Some (Serve store address files workers readers connections openings)) = openings
openings_of _ = None

-- The file of a name is told. No count that its opening may raise stands at its greatest number.
pub record IsToldBook (name : List ℕ) (world : World) : Type 0 where
  pub file : IsSome (world.host.files name)
  pub faults : world.host.file_faults < 2 ^ 64 - 1
  pub refusals : world.host.own_faults < 2 ^ 64 - 1

-- the same of the file of openings, where one is given
abbrev pub IsToldOpenings : Option (List ℕ) → World → Type 0
IsToldOpenings None world = ⊤
IsToldOpenings (Some name) world = IsToldBook name world

-- nothing was refused, and no file came back with faults
pub record HostWell (before after : World) : Type 0 where
  pub refusals : after.host.own_faults ≡ before.host.own_faults
  pub files : after.host.file_faults ≡ before.host.file_faults

-- the same, where a file of openings is given
abbrev pub OpensWell : Option (List ℕ) → World → World → Type 0
OpensWell None before after = ⊤
OpensWell (Some name) before after = HostWell before after

-- a file of openings was given, and gave no book
abbrev pub LacksOpenings : Option (List ℕ) → World → World → Type 0
LacksOpenings None before after = ⊥
LacksOpenings (Some name) before after =
    (fault : Fault) × LacksBook name fault before.host after.host

-- an import under a label into a new store finds no room for one of these groups, by so many games
-- and bytes that are stored
abbrev pub IsFullIn : List ℕ → ℕ → ℕ → List (List Cut) → List Batch → List Refusal → Type 0
IsFullIn label games bytes so_far batches refused = (left : List Candidate)
    × EndsIn label new_store so_far batches refused left × FindsNoRoom batches games bytes left

abbrev pub IsOther : Why → Type 0
IsOther (Repeated number) = ⊥
IsOther _ = ⊤

-- the cut is not refused as a repeat of a stored game
abbrev pub IsNoRepeat : Refusal → Type 0
IsNoRepeat refusal = IsOther refusal.why

-- what was written is told, and no count of it stands at its greatest number
pub record IsToldOutput (world : World) : Type 0 where
  pub output : IsSome world.output.written
  pub writes : world.output.write_faults < 2 ^ 64 - 1

-- no write of the output failed
abbrev pub WritesWell : World → World → Type 0
WritesWell before after = after.output.write_faults ≡ before.output.write_faults

-- The disk of a name is told, and so is what was written. No count stands at its greatest number.
pub record IsToldStore (name file : List ℕ) (world : World) : Type 0 where
  pub disk : world.host.disks name ≡ Some file
  pub output : IsSome world.output.written
  pub writes : world.output.write_faults < 2 ^ 64 - 1
  pub refusals : world.host.own_faults < 2 ^ 64 - 1
  pub faults : world.host.disk_faults < 2 ^ 64 - 1

-- no write failed, the host refused nothing, and no disk came back with faults
pub record GoesWell (before after : World) : Type 0 where
  pub writes : after.output.write_faults ≡ before.output.write_faults
  pub refusals : after.host.own_faults ≡ before.host.own_faults
  pub faults : after.host.disk_faults ≡ before.host.disk_faults

-- what was reported is told, and no count of it stands at its greatest number
pub record IsToldErrors (world : World) : Type 0 where
  pub errors : IsSome world.errors.written
  pub reports : world.errors.write_faults < 2 ^ 64 - 1

-- no report failed
abbrev pub ReportsWell : World → World → Type 0
ReportsWell before after = after.errors.write_faults ≡ before.errors.write_faults

-- the file of a name is told, and shorter than the bound
pub record IsToldFile (name stream : List ℕ) (world : World) : Type 0 where
  pub file : world.host.files name ≡ Some stream
  pub below : length stream < input_limit
  pub faults : world.host.file_faults < 2 ^ 64 - 1

-- no file came back with faults
abbrev pub ReadsWell : World → World → Type 0
ReadsWell before after = after.host.file_faults ≡ before.host.file_faults

-- memory was there: the run did not end for want of it, and where a group found no room it printed
-- what is stored
abbrev pub HasMemory : ℕ → World → World → Type 0
HasMemory status before after =
    (status ≢ 9) × (status ≡ 8 → after.output ≢ before.output)

-- the contents are the same, or one journal is that of each of them that is told
abbrev pub HoldAlike : Option (List ℕ) → Option (List ℕ) → Type 0
HoldAlike content other = (content ≡ other)
    ⊎ ((journal : List Batch) × IfSome content (HasJournal journal)
    × IfSome other (HasJournal journal))

-- Imports into the store of a name came to the same, but for the bytes that hold one journal. Where
-- a group found no room, how far the file was read is left free, and so the call that gave it back.
pub record ImportAlike (store : List ℕ) (status : ℕ) (after other : World) : Type 0 where
  pub streams : SameStreams after other
  pub disk : HoldAlike (after.host.disks store) (other.host.disks store)
  pub calls : status ≢ 8 → other.host.calls ≡ after.host.calls
  pub rest : other.host ≡ record after.host {
    calls = other.host.calls;
    disks = put store (other.host.disks store) after.host.disks;
  }

-- Migrations came to the same, but for the bytes that hold one journal under the name of the new
-- store.
pub record MigratedAlike (new : List ℕ) (after other : World) : Type 0 where
  pub streams : SameStreams after other
  pub disk : HoldAlike (after.host.disks new) (other.host.disks new)
  pub calls : other.host.calls ≡ after.host.calls
  pub rest : other.host ≡ record after.host {
    calls = other.host.calls;
    disks = put new (other.host.disks new) after.host.disks;
  }

-- the count of scratch files that came back with faults doesn't stand at its greatest number
abbrev pub CountsSpills : World → Type 0
CountsSpills world = world.host.port_faults < 2 ^ 64 - 1

-- no scratch file came back with faults, and what stands under the name is told
pub record SpillsWell (name : List ℕ) (before after : World) : Type 0 where
  pub faults : after.host.port_faults ≡ before.host.port_faults
  pub told : IsSome (after.host.ports name)

-- runs came to the same, but for the bytes under the name of a scratch file
pub record SpilledAlike (name : List ℕ) (after other : World) : Type 0 where
  pub streams : SameStreams after other
  pub rest : other.host ≡ record after.host {
    ports = put name (other.host.ports name) after.host.ports;
  }

-- the service with so many workers
abbrev pub with_workers : ℕ → Service → Service
with_workers workers service = record service { workers = workers }

-- what words ask for that ask for the service, with answers by the file of openings
abbrev pub serving : Option (List ℕ) → Service → Task
serving openings service = Serve service.store service.address service.files service.workers
    service.readers service.connections openings

-- the service with answers by the book
abbrev pub with_book : List NamedPosition → Service → Service
with_book book service = record service { book = book }

-- Runs that refused the store of a name came to the same: with the streams, with the bytes under
-- the name, and in all that was asked of the host.
pub record RefusedAlike (store : List ℕ) (after other : World) : Type 0 where
  pub streams : SameStreams after other
  pub disk : other.host.disks store ≡ after.host.disks store
  pub calls : other.host.calls ≡ after.host.calls
  pub faults : other.host.disk_faults ≡ after.host.disk_faults

-- doors were served over a store that had this journal, and the address was told
pub record ServesDoors (service : Service) (opening : List Batch) (before after : World)
    : Type 0 where
  pub worked : IsWorked service before.host after.host
  pub opening_is : worked.opening ≡ opening
  pub goes_on : GoesOn service before.host after.host worked
  pub listens : Listens service before after

-- the calls are the same, but for what came back
abbrev pub IsSameCall : HostCall → HostCall → Type 0
IsSameCall (FileBack name file) (FileBack other_name other) = name ≡ other_name
IsSameCall (DoorBack door) (DoorBack other) = ⊤
IsSameCall call other = call ≡ other

-- Runs of two services served the same doors, over one journal. The same was read and told, and
-- the host was asked for the same.
pub record ServedAlike (service other_service : Service) (opening : List Batch)
    (before after other : World) : Type 0 where
  pub first : ServesDoors service opening before after
  pub second : ServesDoors other_service opening before other
  pub doors : second.worked.handed ≡ first.worked.handed
  pub calls : AllZip IsSameCall
      (serve_calls service first.worked.files first.worked.doors)
      (serve_calls other_service second.worked.files second.worked.doors)
  pub input : other.input ≡ after.input
  pub output : other.output ≡ after.output

-- the same over a told store, of a service with so many workers beside it
abbrev pub ServedAlikeBehind : Service → ℕ → List ℕ → World → World → World → Type 0
ServedAlikeBehind service workers image before after other =
    (opening : List Batch) × HasJournal opening image
    × ServedAlike service (with_workers workers service) opening before after other

-- the exchange is one of those of connections that were served one after another
abbrev pub IsExchangedIn : (offer : Offer) → Exchange → (before : Backend)
    → (came went : List Stream) → (after : Backend) → AreServed offer before came went after
    → Type 0
IsExchangedIn offer exchange before [] [] after served = ⊥
IsExchangedIn offer exchange before [] (link ∷ went) after served = ⊥
IsExchangedIn offer exchange before (link ∷ came) [] after served = ⊥
IsExchangedIn offer exchange before (link ∷ came) (back ∷ went) after served =
    Contains served.2.exchanges exchange
    ⊎ IsExchangedIn offer exchange served.1 came went after served.3

-- A connection of a door asked for an answer, and was replied this body over so many batches, with
-- the openings of the book. What was seen at the door is a front of the journal.
pub record IsAnswered (book : List NamedPosition) (route : Route) (batches : ℕ) (body : List ℕ)
    (opening journal : List Batch) (door : Connections) (run : DoorRun) : Type 0 where
  pub seen : IsSeenIn book opening journal door run
  pub exchange : Exchange
  pub among : IsExchangedIn (with_players book) exchange (backend (watching opening) new_importer)
      seen.from.served.came seen.from.served.went seen.from.last seen.from.served.served
  pub asked : route_of (with_players book) exchange.asked ≡ route
  pub replied : exchange.reply ≡ Found batches body

-- a file's drawer drew the place: a batch of the file stands there, or one of which it has no receipt
abbrev pub IsDrawnForFile : ℕ → List FileRun → Type 0
IsDrawnForFile place runs = (run : FileRun) × Contains runs run × Contains run.drawing.drawn place

-- The place was drawn at a door, for one of the exchanges of its connections, which is an import.
pub record IsDrawnAtDoor (book : List NamedPosition) (place : ℕ) (opening journal : List Batch)
    (doors : List DoorRun) : Type 0 where
  pub door : Connections
  pub run : DoorRun
  pub is_run : Contains doors run
  pub seen : IsSeenIn book opening journal door run
  pub exchange : Exchange
  pub among : IsExchangedIn (with_players book) exchange (backend (watching opening) new_importer)
      seen.from.served.came seen.from.served.went seen.from.last seen.from.served.served
  pub drawn : IsDrawnFor (with_players book) place seen.from.last.pass.seen exchange

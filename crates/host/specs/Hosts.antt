-- Statement: what a host has come to, and what its calls do to it.
use Rattle.std.specs.Prelude.{◌≡◌, ◌⊎◌, ◌<◌, ◌+◌, ◌-◌, ℕ, Bool, List, [], ◌∷◌, length, Option, None, Some, IfSome, slice_get, if◌then◌else◌}
use Rattle.std.specs.Option.{option_map}
use Rattle.std.specs.Str.{bytes_eq}
use Rattle.outside.specs.Doors.{Connections}
use Rattle.outside.specs.Ports.{Scratch}
use Rattle.outside.specs.Stream.{Stream, Rises, source_alone}
use Rattle.disk_model.specs.Disk.{DiskState}
use Rattle.explorer_model.specs.declared.fault.Stop.{Stop}
use Rattle.explorer_model.specs.declared.fault.Stop.TheVariants.{Fault, OutOfMemory}

-- ---- what a host hands out and takes back

-- a call of a host that was answered, but for want of memory
pub data HostCall : Type 0 where
  -- a disk of this name was handed out, refused, or given back
  DiskOut : List ℕ → HostCall
  DiskRefused : List ℕ → HostCall
  DiskBack : List ℕ → HostCall
  -- so was a file of this name, which came back as this stream
  FileOut : List ℕ → HostCall
  FileRefused : List ℕ → HostCall
  FileBack : List ℕ → Stream → HostCall
  -- so many doors to an address were handed out, or refused, each for so many connections
  DoorsOut : List ℕ → ℕ → ℕ → HostCall
  DoorsRefused : List ℕ → ℕ → ℕ → HostCall
  -- a door was given back, as it stood then
  DoorBack : Connections → HostCall
  -- a scratch file of this name was handed out, refused, or given back
  PortOut : List ℕ → HostCall
  PortRefused : List ℕ → HostCall
  PortBack : List ℕ → HostCall

-- what is handed out, by its name
pub data Thing : Type 0 where
  ADisk : List ℕ → Thing
  AFile : List ℕ → Thing
  ADoor : Thing
  APort : List ℕ → Thing

abbrev pub one_if : Bool → ℕ
one_if same = if same then 1 else 0

-- how many of a thing a call hands out
abbrev pub handed : Thing → HostCall → ℕ
handed (ADisk name) (DiskOut other) = one_if (bytes_eq name other)
handed (AFile name) (FileOut other) = one_if (bytes_eq name other)
handed ADoor (DoorsOut address readers connections) = readers
handed (APort name) (PortOut other) = one_if (bytes_eq name other)
handed _ _ = 0

-- how many of a thing a call gives back
abbrev pub returned : Thing → HostCall → ℕ
returned (ADisk name) (DiskBack other) = one_if (bytes_eq name other)
returned (AFile name) (FileBack other file) = one_if (bytes_eq name other)
returned ADoor (DoorBack door) = 1
returned (APort name) (PortBack other) = one_if (bytes_eq name other)
returned _ _ = 0

-- how many of a thing are out after these calls, of which the newest stands first
abbrev pub out : Thing → List HostCall → ℕ
out thing [] = 0
out thing (call ∷ calls) = out thing calls + handed thing call - returned thing call

-- ---- a host at one moment

-- What is not told is None.
pub record HostState : Type 0 where
  pub calls : Option (List HostCall)  -- its calls, the newest first
  pub disks : List ℕ → Option (List ℕ)  -- the bytes of the disk under a name, which is not out
  pub files : List ℕ → Option (List ℕ)  -- the bytes of the file under a name
  pub links : List ℕ → ℕ → Option (List Stream)  -- those to come at each door of an address
  pub ports : List ℕ → Option (List ℕ)  -- those of the scratch file under a name, which is not out
  pub own_faults : ℕ  -- how often it refused what it was asked for
  pub disk_faults : ℕ  -- how often a disk came back with faults
  pub file_faults : ℕ
  pub door_faults : ℕ
  pub port_faults : ℕ

-- the calls with one more
abbrev pub noted : HostCall → Option (List HostCall) → Option (List HostCall)
noted call calls = option_map (λ earlier. call ∷ earlier) calls

-- the calls with these more, the newest first
abbrev pub added : List HostCall → Option (List HostCall) → Option (List HostCall)
added [] calls = calls
added (call ∷ more) calls = noted call (added more calls)

-- a call that is refused is noted, where there is memory for that
abbrev pub MayNote : HostCall → Option (List HostCall) → Option (List HostCall) → Type 0
MayNote call before after = (after ≡ noted call before) ⊎ (after ≡ before)

-- what stands under each name, once this stands under one
abbrev pub put : {A : Type 0} → List ℕ → A → (List ℕ → A) → List ℕ → A
put name new stands other = if bytes_eq other name then new else stands other

-- one of the thing is out
abbrev pub IsOut : Thing → HostState → Type 0
IsOut thing host = IfSome host.calls (λ calls. 0 < out thing calls)

-- of each thing as many are out as before
abbrev pub GivesBack : HostState → HostState → Type 0
GivesBack before after =
    (thing : Thing) → option_map (out thing) after.calls ≡ option_map (out thing) before.calls

-- a count rises where a thing comes back with faults, and nowhere else
pub record Counts (faults before after : ℕ) : Type 0 where
  pub rises : 0 < faults → Rises before after
  pub same : faults ≡ 0 → after ≡ before

-- ---- disks

-- a disk was handed out as it stood under the name, where nothing is told of it meanwhile
pub record HandsDisk (name : List ℕ) (disk : DiskState) (before after : HostState) : Type 0 where
  pub content : disk.content ≡ before.disks name
  pub faultless : disk.faults ≡ 0
  pub rest : after ≡ record before {
    calls = noted (DiskOut name) before.calls;
    disks = put name None before.disks;
  }

pub record RefusesDisk (name : List ℕ) (before after : HostState) : Type 0 where
  pub rises : Rises before.own_faults after.own_faults
  pub calls : MayNote (DiskRefused name) before.calls after.calls
  pub rest : after ≡ record before { calls = after.calls; own_faults = after.own_faults }

-- a disk came back, and stands under its name again
pub record TakesDisk (name : List ℕ) (disk : DiskState) (before after : HostState) : Type 0 where
  pub counts : Counts disk.faults before.disk_faults after.disk_faults
  pub rest : after ≡ record before {
    calls = noted (DiskBack name) before.calls;
    disks = put name disk.content before.disks;
    disk_faults = after.disk_faults;
  }

-- ---- files

-- a file was handed out as it stands under the name
pub record HandsFile (name : List ℕ) (file : Stream) (before after : HostState) : Type 0 where
  pub stood : file ≡ source_alone (before.files name) 0 0
  pub rest : after ≡ record before { calls = noted (FileOut name) before.calls }

pub record RefusesFile (name : List ℕ) (before after : HostState) : Type 0 where
  pub rises : Rises before.own_faults after.own_faults
  pub calls : MayNote (FileRefused name) before.calls after.calls
  pub rest : after ≡ record before { calls = after.calls; own_faults = after.own_faults }

pub record TakesFile (name : List ℕ) (file : Stream) (before after : HostState) : Type 0 where
  pub counts : Counts file.read_faults before.file_faults after.file_faults
  pub rest : after ≡ record before {
    calls = noted (FileBack name file) before.calls;
    file_faults = after.file_faults;
  }

-- ---- doors

-- a door to which no link came yet
abbrev pub fresh : ℕ → Option (List Stream) → Connections
fresh connections links = record {
  left = connections;
  out = 0;
  to_come = links;
  taken_back = option_map (λ _. []) links;
  faults = 0;
}

-- so many doors, each for so many connections, to which these links are to come
pub record AreFresh (readers connections : ℕ) (links : ℕ → Option (List Stream))
    (doors : List Connections) : Type 0 where
  pub number : length doors ≡ readers
  pub each : (k : ℕ) → k < readers → slice_get doors k ≡ Some (fresh connections (links k))

-- nothing is told of the links of an address any more
abbrev pub untold_links : List ℕ → HostState → List ℕ → ℕ → Option (List Stream)
untold_links address host = put address (λ _. None) host.links

-- doors to an address were handed out
pub record HandsDoors (address : List ℕ) (readers connections : ℕ) (doors : List Connections)
    (before after : HostState) : Type 0 where
  pub fresh : AreFresh readers connections (before.links address) doors
  pub rest : after ≡ record before {
    calls = noted (DoorsOut address readers connections) before.calls;
    links = untold_links address before;
  }

pub record RefusesDoors (address : List ℕ) (readers connections : ℕ) (before after : HostState)
    : Type 0 where
  pub rises : Rises before.own_faults after.own_faults
  pub calls : MayNote (DoorsRefused address readers connections) before.calls after.calls
  pub rest : after ≡ record before { calls = after.calls; own_faults = after.own_faults }

-- doors were refused; or memory was wanting for them, and links may be lost
abbrev pub NotMade : {F : Type 0} → List ℕ → ℕ → ℕ → Stop F → HostState → HostState → Type 0
NotMade address readers connections (Fault fault) before after =
    RefusesDoors address readers connections before after
NotMade address readers connections OutOfMemory before after =
    after ≡ record before { links = after.links }

pub record TakesDoor (door : Connections) (before after : HostState) : Type 0 where
  pub counts : Counts door.faults before.door_faults after.door_faults
  pub rest : after ≡ record before {
    calls = noted (DoorBack door) before.calls;
    door_faults = after.door_faults;
  }

-- ---- scratch files

-- a scratch file was handed out, of which nothing stands under the name meanwhile: an empty one,
-- which tells its bytes where those under the name were told
pub record HandsPort (name : List ℕ) (port : Scratch) (before after : HostState) : Type 0 where
  pub told : port.appended ≡ option_map (λ _. []) (before.ports name)
  pub empty : port.size ≡ 0
  pub faultless : port.faults ≡ 0
  pub rest : after ≡ record before {
    calls = noted (PortOut name) before.calls;
    ports = put name None before.ports;
  }

pub record RefusesPort (name : List ℕ) (before after : HostState) : Type 0 where
  pub rises : Rises before.own_faults after.own_faults
  pub calls : MayNote (PortRefused name) before.calls after.calls
  pub rest : after ≡ record before { calls = after.calls; own_faults = after.own_faults }

-- a scratch file came back, and stands under its name with what was appended
pub record TakesPort (name : List ℕ) (port : Scratch) (before after : HostState) : Type 0 where
  pub counts : Counts port.faults before.port_faults after.port_faults
  pub rest : after ≡ record before {
    calls = noted (PortBack name) before.calls;
    ports = put name port.appended before.ports;
    port_faults = after.port_faults;
  }

-- Statement: the host in memory.
use Rattle.std.specs.Prelude.{◌≡◌, ◌⊎◌, ◌≤◌, ◌<◌, ◌+◌, ◌∷◌, ℕ, Bool, true, false, List, [], ◌++◌, length, position, Option, None, Some, IsSome, map, reverse, replicate, string_bytes, slice_get, get_or, if◌then◌else◌}
use Rattle.std.specs.Option.{option_and_then}
use Rattle.std.specs.Str.{bytes_eq}
use Rattle.outside.specs.Memory.{stream_of}
use Rattle.outside.specs.Ports.{MemoryPort, scratch_of}
use Rattle.outside.specs.Stream.{Stream}
use Rattle.disk_model.specs.Memory.{MemoryDisk, state_of}
use Rattle.host.specs.declared.memory.Named.{Named}
use Rattle.host.specs.declared.memory.MemFile.{MemFile}
use Rattle.host.specs.declared.memory.MemAddress.{MemAddress}
use Rattle.host.specs.declared.memory.MemLinks.{MemLinks}
use Rattle.host.specs.declared.memory.MemCall.{MemCall}
use Rattle.host.specs.declared.memory.MemCall.TheVariants as mem
use Rattle.host.specs.Hosts as host
use Rattle.host.specs.Hosts.{HostCall, HostState, Thing, ADisk, AFile, ADoor, APort, DiskOut, DiskRefused, DiskBack, FileOut, FileRefused, FileBack, DoorsOut, DoorsRefused, DoorBack, PortOut, PortRefused, PortBack}
use Rattle.host.specs.Real.{FaultCounts}

-- ---- what stands under a name

abbrev pub is_named : {T : Type 0} → List ℕ → Named T → Bool
is_named name slot = bytes_eq (string_bytes slot.name) name

-- the first place at which something stands under the name
abbrev pub place_in : {T : Type 0} → List ℕ → List (Named T) → Option ℕ
place_in name slots = position (is_named name) slots

-- what is told of it, or of a name that is not known
abbrev pub under : {T A : Type 0} → A → (T → A) → List (Named T) → List ℕ → A
under unknown told [] name = unknown
under unknown told (slot ∷ slots) name =
    if is_named name slot then told slot.it else under unknown told slots name

abbrev pub names_of : {T : Type 0} → List (Named T) → List (List ℕ)
names_of slots = map (λ slot. string_bytes slot.name) slots

abbrev pub bytes_of : Option MemoryDisk → Option (List ℕ)
bytes_of disk = option_and_then (λ disk. (state_of disk).content) disk

-- the links to one door; none come to one for which none are there
abbrev pub links_of : Option MemLinks → Option (List Stream)
links_of None = Some []
links_of (Some coming) = Some (map stream_of coming.links.items)

-- the links to each door, where they have not come yet
abbrev pub each_links : Option MemAddress → ℕ → Option (List Stream)
each_links None k = None
each_links (Some address) k = links_of (slice_get address.doors.items k)

-- the bytes of a scratch file, where it tells them
abbrev pub appended_of : Option MemoryPort → Option (List ℕ)
appended_of port = option_and_then (λ port. (scratch_of port).appended) port

-- ---- the calls

-- what stands under names
pub record Stock : Type 0 where
  pub disks : List (Named (Option MemoryDisk))
  pub files : List (Named MemFile)
  pub addresses : List (Named (Option MemAddress))
  pub ports : List (Named (Option MemoryPort))

abbrev pub stock : List (Named (Option MemoryDisk)) → List (Named MemFile)
    → List (Named (Option MemAddress)) → List (Named (Option MemoryPort)) → Stock
stock disks files addresses ports =
    record { disks = disks; files = files; addresses = addresses; ports = ports }

pub record MemoryHost : Type 0 where
  pub stock : Stock
  pub calls : List MemCall  -- the oldest first
  pub counts : FaultCounts

-- the names of what stands, by place
pub record Names : Type 0 where
  pub disks : List (List ℕ)
  pub files : List (List ℕ)
  pub addresses : List (List ℕ)
  pub ports : List (List ℕ)

abbrev pub names_in : Stock → Names
names_in stock = record {
  disks = names_of stock.disks;
  files = names_of stock.files;
  addresses = names_of stock.addresses;
  ports = names_of stock.ports;
}

abbrev pub call_of : Names → MemCall → HostCall
call_of names (mem.DiskOut place) = DiskOut (get_or names.disks place [])
call_of names (mem.DiskRefused name) = DiskRefused (string_bytes name)
call_of names (mem.DiskBack place) = DiskBack (get_or names.disks place [])
call_of names (mem.FileOut place) = FileOut (get_or names.files place [])
call_of names (mem.FileRefused name) = FileRefused (string_bytes name)
call_of names (mem.FileBack place file) = FileBack (get_or names.files place []) file.stream
call_of names (mem.DoorsOut place readers connections) =
    DoorsOut (get_or names.addresses place []) readers connections
call_of names (mem.DoorsRefused name readers connections) =
    DoorsRefused (string_bytes name) readers connections
call_of names (mem.DoorBack door) = DoorBack door.connections
call_of names (mem.PortOut place) = PortOut (get_or names.ports place [])
call_of names (mem.PortRefused name) = PortRefused (string_bytes name)
call_of names (mem.PortBack place) = PortBack (get_or names.ports place [])

-- the calls, the newest first
abbrev pub calls_of : Stock → List MemCall → List HostCall
calls_of stock calls = reverse (map (call_of (names_in stock)) calls)

abbrev pub host_of : MemoryHost → HostState
host_of host = record {
  calls = Some (calls_of host.stock host.calls);
  disks = under None bytes_of host.stock.disks;
  files = under None (λ file. Some file.bytes.items) host.stock.files;
  links = under (λ _. None) each_links host.stock.addresses;
  ports = under None appended_of host.stock.ports;
  own_faults = host.counts.own;
  disk_faults = host.counts.disks;
  file_faults = host.counts.files;
  door_faults = host.counts.doors;
  port_faults = host.counts.ports;
}

-- ---- what is kept of a host in memory

abbrev pub is_same : Thing → Thing → Bool
is_same (ADisk name) (ADisk other) = bytes_eq name other
is_same (AFile name) (AFile other) = bytes_eq name other
is_same ADoor ADoor = true
is_same (APort name) (APort other) = bytes_eq name other
is_same _ _ = false

-- things without the first that is the same
abbrev pub without : Thing → List Thing → List Thing
without thing [] = []
without thing (first ∷ rest) =
    if is_same thing first then rest else first ∷ without thing rest

-- all that is out after these calls, the newest first
abbrev pub things_out : List HostCall → List Thing
things_out [] = []
things_out (DiskOut name ∷ calls) = ADisk name ∷ things_out calls
things_out (DiskBack name ∷ calls) = without (ADisk name) (things_out calls)
things_out (FileOut name ∷ calls) = AFile name ∷ things_out calls
things_out (FileBack name file ∷ calls) = without (AFile name) (things_out calls)
things_out (DoorsOut address readers connections ∷ calls) =
    replicate readers ADoor ++ things_out calls
things_out (DoorBack door ∷ calls) = without ADoor (things_out calls)
things_out (PortOut name ∷ calls) = APort name ∷ things_out calls
things_out (PortBack name ∷ calls) = without (APort name) (things_out calls)
things_out (_ ∷ calls) = things_out calls

-- what is out has a place
abbrev pub AreKnown : {T : Type 0} → (List ℕ → Thing) → List (Named T) → List HostCall → Type 0
AreKnown thing slots calls =
    (name : List ℕ) → 0 < host.out (thing name) calls → IsSome (place_in name slots)

-- so many things are out, there is room to note the return of each, and each has a place
pub record IsKept (stock : Stock) (calls : List HostCall) (out size capacity : ℕ)
    : Type 0 where
  pub out_is : out ≡ length (things_out calls)
  pub room : size + out ≤ capacity
  pub disks : AreKnown ADisk stock.disks calls
  pub files : AreKnown AFile stock.files calls
  pub ports : AreKnown APort stock.ports calls

-- the call is noted as one that was refused
abbrev pub IsRefusalOf : HostCall → MemCall → Type 0
IsRefusalOf is (mem.DiskRefused name) = is ≡ DiskRefused (string_bytes name)
IsRefusalOf is (mem.FileRefused name) = is ≡ FileRefused (string_bytes name)
IsRefusalOf is (mem.DoorsRefused name readers connections) =
    is ≡ DoorsRefused (string_bytes name) readers connections
IsRefusalOf is (mem.PortRefused name) = is ≡ PortRefused (string_bytes name)
IsRefusalOf is _ = ⊥

-- a call was noted behind the others, or no call was
abbrev pub NotesOrNot : Option MemCall → List MemCall → List MemCall → Type 0
NotesOrNot None before after = after ≡ before
NotesOrNot (Some call) before after = (after ≡ before ++ call ∷ []) ⊎ (after ≡ before)

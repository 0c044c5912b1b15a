-- What a host in memory hands out and takes back.
use Rattle.std.proofs.Common.{◌≡◌, ◌≤◌, ◌<◌, ◌+◌, ◌-◌, ℕ, List, [], ◌∷◌, ◌++◌, get_or, set, Option, None, Some, refl, sym, ap, ◌∙◌, subst}
use Rattle.outside.specs.Doors.{Connections}
use Rattle.outside.specs.Memory.{MemorySource, MemoryDoor}
use Rattle.outside.specs.Stream.{Stream, source_alone}
use Rattle.disk_model.specs.Memory.{MemoryDisk, state_of}
use Rattle.host.specs.declared.memory.Named.{Named}
use Rattle.host.specs.declared.memory.MemFile.{MemFile}
use Rattle.host.specs.declared.memory.MemAddress.{MemAddress}
use Rattle.host.specs.declared.memory.MemCall.{MemCall}
use Rattle.host.specs.declared.memory.MemCall.TheVariants as mem
use Rattle.host.specs.Hosts.{AreFresh, Counts, HandsDisk, HandsDoors, HandsFile, HostCall, ADisk, AFile, ADoor, DiskOut, DiskBack, FileOut, FileBack, DoorsOut, TakesDisk, TakesDoor, TakesFile, out, put}
use Rattle.host.specs.Memory.{IsKept, Stock, bytes_of, call_of, calls_of, each_links, host_of, names_in, place_in, under}
use Rattle.host.specs.Real.{FaultCounts}
use Rattle.host.proofs.Keeping.{calls_of-addresses, calls_of-disks, calls_of-push, kept_addresses, kept_disks, kept_disk_back, kept_disk_out, kept_door_back, kept_doors_out, kept_file_back, kept_file_out}
use Rattle.host.proofs.Places.{ext, is_first, name-at, under-at, under-set}

-- ---- disks

-- a call on the disk at a place, whose slot is another now
pub disk_noted : (s : Stock) (calls items : List MemCall) (i : ℕ) (name : List ℕ) (slot new : Named (Option MemoryDisk))
    (call : MemCall) (is : List ℕ → HostCall)
    → slot ≡ get_or s.disks i slot → new.name ≡ slot.name → place_in name s.disks ≡ Some i
    → items ≡ calls ++ call ∷ []
    → ((n : List ℕ) → n ≡ get_or (names_in s).disks i [] → is n ≡ call_of (names_in s) call)
    → calls_of (record s { disks = set s.disks i new }) items ≡ is name ∷ calls_of s calls
disk_noted s calls items i name slot new call is slot_is same at items_is named =
    calls_of-disks s items i new slot (same ∙ ap (λ (x : Named (Option MemoryDisk)). x.name) slot_is)
    ∙ (calls_of-push s calls items call items_is
    ∙ ap (λ (x : HostCall). x ∷ calls_of s calls)
    (sym (named name (sym (name-at name s.disks i (is_first name s.disks i at))))))

out_named : (s : Stock) (i : ℕ) (n : List ℕ) → n ≡ get_or (names_in s).disks i []
    → DiskOut n ≡ call_of (names_in s) (mem.DiskOut i)
out_named s i n is = ap DiskOut is

back_named : (s : Stock) (i : ℕ) (n : List ℕ) → n ≡ get_or (names_in s).disks i []
    → DiskBack n ≡ call_of (names_in s) (mem.DiskBack i)
back_named s i n is = ap DiskBack is

pub kept_lent : (s : Stock) (calls items : List MemCall) (number size room size' room' i : ℕ) (name : List ℕ)
    (slot new : Named (Option MemoryDisk))
    → IsKept s (calls_of s calls) number size room → slot ≡ get_or s.disks i slot → new.name ≡ slot.name
    → place_in name s.disks ≡ Some i → items ≡ calls ++ mem.DiskOut i ∷ [] → size' + (number + 1) ≤ room'
    → let after = record s { disks = set s.disks i new } in IsKept after (calls_of after items) (number + 1) size' room'
kept_lent s calls items number size room size' room' i name slot new kept slot_is same at items_is fits =
    let e = disk_noted s calls items i name slot new (mem.DiskOut i) DiskOut slot_is same at items_is (out_named s i) in
    let same' = same ∙ ap (λ (x : Named (Option MemoryDisk)). x.name) slot_is in
    rw e (kept_disks s (DiskOut name ∷ calls_of s calls) (number + 1) size' room' i new slot same'
    (kept_disk_out s (calls_of s calls) number size room size' room' i name kept at fits))

pub hands_disk : (s : Stock) (calls items : List MemCall) (counts : FaultCounts) (i : ℕ) (name : List ℕ)
    (slot new : Named (Option MemoryDisk)) (disk : MemoryDisk)
    → slot ≡ get_or s.disks i slot → new.name ≡ slot.name → slot.it ≡ Some disk → disk.faults ≡ 0 → new.it ≡ None
    → place_in name s.disks ≡ Some i → items ≡ calls ++ mem.DiskOut i ∷ []
    → HandsDisk name (state_of disk) (host_of (record { stock = s; calls = calls; counts = counts }))
    (host_of (record { stock = record s { disks = set s.disks i new }; calls = items; counts = counts }))
hands_disk s calls items counts i name slot new disk slot_is same it_is faultless none at items_is =
    let first = is_first name s.disks i at in
    let same' = same ∙ ap (λ (x : Named (Option MemoryDisk)). x.name) slot_is in
    let e = disk_noted s calls items i name slot new (mem.DiskOut i) DiskOut slot_is same at items_is (out_named s i) in
    let d = ext (under None bytes_of (set s.disks i new)) (put name (bytes_of new.it) (under None bytes_of s.disks))
    (under-set None bytes_of name s.disks i new slot first same') in
    record {
      content =
          sym (under-at None bytes_of name s.disks i slot first
          ∙ (ap (λ (x : Named (Option MemoryDisk)). bytes_of x.it) (sym slot_is) ∙ ap bytes_of it_is));
      faultless = faultless;
      rest = rw (e, d, none) refl;
    }

pub kept_returned : (s : Stock) (calls items : List MemCall) (number size room size' room' i : ℕ) (name : List ℕ)
    (slot new : Named (Option MemoryDisk))
    → IsKept s (calls_of s calls) number size room → slot ≡ get_or s.disks i slot → new.name ≡ slot.name
    → place_in name s.disks ≡ Some i → items ≡ calls ++ mem.DiskBack i ∷ []
    → 0 < out (ADisk name) (calls_of s calls) → size' + (number - 1) ≤ room'
    → let after = record s { disks = set s.disks i new } in IsKept after (calls_of after items) (number - 1) size' room'
kept_returned s calls items number size room size' room' i name slot new kept slot_is same at items_is some fits =
    let e = disk_noted s calls items i name slot new (mem.DiskBack i) DiskBack slot_is same at items_is (back_named s i) in
    let same' = same ∙ ap (λ (x : Named (Option MemoryDisk)). x.name) slot_is in
    rw e (kept_disks s (DiskBack name ∷ calls_of s calls) (number - 1) size' room' i new slot same'
    (kept_disk_back s (calls_of s calls) number size room size' room' name kept some fits))

pub takes_disk : (s : Stock) (calls items : List MemCall) (counts counts' : FaultCounts) (i : ℕ) (name : List ℕ)
    (slot new : Named (Option MemoryDisk)) (disk : MemoryDisk)
    → slot ≡ get_or s.disks i slot → new.name ≡ slot.name → new.it ≡ Some disk
    → place_in name s.disks ≡ Some i → items ≡ calls ++ mem.DiskBack i ∷ []
    → Counts disk.faults counts.disks counts'.disks → counts' ≡ record counts { disks = counts'.disks }
    → TakesDisk name (state_of disk) (host_of (record { stock = s; calls = calls; counts = counts }))
    (host_of (record { stock = record s { disks = set s.disks i new }; calls = items; counts = counts' }))
takes_disk s calls items counts counts' i name slot new disk slot_is same it_is at items_is counted rest =
    let first = is_first name s.disks i at in
    let same' = same ∙ ap (λ (x : Named (Option MemoryDisk)). x.name) slot_is in
    let e = disk_noted s calls items i name slot new (mem.DiskBack i) DiskBack slot_is same at items_is (back_named s i) in
    let d = ext (under None bytes_of (set s.disks i new)) (put name (bytes_of new.it) (under None bytes_of s.disks))
    (under-set None bytes_of name s.disks i new slot first same') in
    record {
      counts = counted;
      rest = rw (e, d, it_is, ap (λ (k : FaultCounts). k.own) rest, ap (λ (k : FaultCounts). k.files) rest, ap (λ (k : FaultCounts). k.doors) rest, ap (λ (k : FaultCounts). k.ports) rest) refl;
    }

-- ---- files

pub file_noted : (s : Stock) (calls items : List MemCall) (i : ℕ) (name : List ℕ)
    (call : MemCall) (is : List ℕ → HostCall)
    → place_in name s.files ≡ Some i → items ≡ calls ++ call ∷ []
    → ((n : List ℕ) → n ≡ get_or (names_in s).files i [] → is n ≡ call_of (names_in s) call)
    → calls_of s items ≡ is name ∷ calls_of s calls
file_noted s calls items i name call is at items_is named =
    calls_of-push s calls items call items_is
    ∙ ap (λ (x : HostCall). x ∷ calls_of s calls)
    (sym (named name (sym (name-at name s.files i (is_first name s.files i at)))))

file_out_named : (s : Stock) (i : ℕ) (n : List ℕ) → n ≡ get_or (names_in s).files i []
    → FileOut n ≡ call_of (names_in s) (mem.FileOut i)
file_out_named s i n is = ap FileOut is

file_back_named : (s : Stock) (i : ℕ) (file : MemorySource) (n : List ℕ) → n ≡ get_or (names_in s).files i []
    → FileBack n file.stream ≡ call_of (names_in s) (mem.FileBack i file)
file_back_named s i file n is = ap (λ (m : List ℕ). FileBack m file.stream) is

pub kept_file_lent : (s : Stock) (calls items : List MemCall) (number size room size' room' i : ℕ) (name : List ℕ)
    → IsKept s (calls_of s calls) number size room → place_in name s.files ≡ Some i
    → items ≡ calls ++ mem.FileOut i ∷ [] → size' + (number + 1) ≤ room'
    → IsKept s (calls_of s items) (number + 1) size' room'
kept_file_lent s calls items number size room size' room' i name kept at items_is fits =
    rw (file_noted s calls items i name (mem.FileOut i) FileOut at items_is (file_out_named s i))
    (kept_file_out s (calls_of s calls) number size room size' room' i name kept at fits)

pub hands_file : (s : Stock) (calls items : List MemCall) (counts : FaultCounts) (i : ℕ) (name : List ℕ)
    (slot : Named MemFile) (file : Stream)
    → slot ≡ get_or s.files i slot → file ≡ source_alone (Some slot.it.bytes.items) 0 0
    → place_in name s.files ≡ Some i → items ≡ calls ++ mem.FileOut i ∷ []
    → HandsFile name file (host_of (record { stock = s; calls = calls; counts = counts }))
    (host_of (record { stock = s; calls = items; counts = counts }))
hands_file s calls items counts i name slot file slot_is file_is at items_is =
    let e = file_noted s calls items i name (mem.FileOut i) FileOut at items_is (file_out_named s i) in
    let u = under-at None (λ (f : MemFile). Some f.bytes.items) name s.files i slot (is_first name s.files i at) in
    record {
      stood = file_is ∙ ap (λ (o : Option (List ℕ)). source_alone o 0 0)
          (ap (λ (x : Named MemFile). Some x.it.bytes.items) slot_is ∙ sym u);
      rest = rw e refl;
    }

pub kept_file_returned : (s : Stock) (calls items : List MemCall) (number size room size' room' i : ℕ) (name : List ℕ)
    (file : MemorySource)
    → IsKept s (calls_of s calls) number size room → place_in name s.files ≡ Some i
    → items ≡ calls ++ mem.FileBack i file ∷ []
    → 0 < out (AFile name) (calls_of s calls) → size' + (number - 1) ≤ room'
    → IsKept s (calls_of s items) (number - 1) size' room'
kept_file_returned s calls items number size room size' room' i name file kept at items_is some fits =
    rw (file_noted s calls items i name (mem.FileBack i file) (λ n. FileBack n file.stream) at items_is (file_back_named s i file))
    (kept_file_back s (calls_of s calls) number size room size' room' name file.stream kept some fits)

pub takes_file : (s : Stock) (calls items : List MemCall) (counts counts' : FaultCounts) (i : ℕ) (name : List ℕ)
    (file : MemorySource)
    → place_in name s.files ≡ Some i → items ≡ calls ++ mem.FileBack i file ∷ []
    → Counts file.stream.read_faults counts.files counts'.files → counts' ≡ record counts { files = counts'.files }
    → TakesFile name file.stream (host_of (record { stock = s; calls = calls; counts = counts }))
    (host_of (record { stock = s; calls = items; counts = counts' }))
takes_file s calls items counts counts' i name file at items_is counted rest =
    let e = file_noted s calls items i name (mem.FileBack i file) (λ n. FileBack n file.stream) at items_is (file_back_named s i file) in
    record {
      counts = counted;
      rest = rw (e, ap (λ (k : FaultCounts). k.own) rest, ap (λ (k : FaultCounts). k.disks) rest, ap (λ (k : FaultCounts). k.doors) rest, ap (λ (k : FaultCounts). k.ports) rest) refl;
    }

-- ---- doors

pub kept_door_returned : (s : Stock) (calls items : List MemCall) (number size room size' room' : ℕ) (door : MemoryDoor)
    → IsKept s (calls_of s calls) number size room → items ≡ calls ++ mem.DoorBack door ∷ []
    → 0 < out ADoor (calls_of s calls) → size' + (number - 1) ≤ room'
    → IsKept s (calls_of s items) (number - 1) size' room'
kept_door_returned s calls items number size room size' room' door kept items_is some fits =
    rw (calls_of-push s calls items (mem.DoorBack door) items_is)
    (kept_door_back s (calls_of s calls) number size room size' room' door.connections kept some fits)

pub takes_door : (s : Stock) (calls items : List MemCall) (counts counts' : FaultCounts) (door : MemoryDoor)
    → items ≡ calls ++ mem.DoorBack door ∷ []
    → Counts door.connections.faults counts.doors counts'.doors → counts' ≡ record counts { doors = counts'.doors }
    → TakesDoor door.connections (host_of (record { stock = s; calls = calls; counts = counts }))
    (host_of (record { stock = s; calls = items; counts = counts' }))
takes_door s calls items counts counts' door items_is counted rest = record {
  counts = counted;
  rest = rw (calls_of-push s calls items (mem.DoorBack door) items_is, ap (λ (k : FaultCounts). k.own) rest, ap (λ (k : FaultCounts). k.disks) rest, ap (λ (k : FaultCounts). k.files) rest, ap (λ (k : FaultCounts). k.ports) rest) refl;
}

-- a call of the doors of an address, whose slot is another now
pub doors_noted : (s : Stock) (calls items : List MemCall) (i readers connections : ℕ) (address : List ℕ)
    (slot new : Named (Option MemAddress))
    → slot ≡ get_or s.addresses i slot → new.name ≡ slot.name → place_in address s.addresses ≡ Some i
    → items ≡ calls ++ mem.DoorsOut i readers connections ∷ []
    → calls_of (record s { addresses = set s.addresses i new }) items
    ≡ DoorsOut address readers connections ∷ calls_of s calls
doors_noted s calls items i readers connections address slot new slot_is same at items_is =
    calls_of-addresses s items i new slot (same ∙ ap (λ (x : Named (Option MemAddress)). x.name) slot_is)
    ∙ (calls_of-push s calls items (mem.DoorsOut i readers connections) items_is
    ∙ ap (λ (n : List ℕ). DoorsOut n readers connections ∷ calls_of s calls)
    (name-at address s.addresses i (is_first address s.addresses i at)))

pub kept_doors_lent : (s : Stock) (calls items : List MemCall) (number size room size' room' i readers connections : ℕ)
    (address : List ℕ) (slot new : Named (Option MemAddress))
    → IsKept s (calls_of s calls) number size room → slot ≡ get_or s.addresses i slot → new.name ≡ slot.name
    → place_in address s.addresses ≡ Some i → items ≡ calls ++ mem.DoorsOut i readers connections ∷ []
    → size' + (number + readers) ≤ room'
    → let after = record s { addresses = set s.addresses i new } in IsKept after (calls_of after items) (number + readers) size' room'
kept_doors_lent s calls items number size room size' room' i readers connections address slot new kept slot_is same at items_is fits =
    rw (doors_noted s calls items i readers connections address slot new slot_is same at items_is)
    (kept_addresses s (DoorsOut address readers connections ∷ calls_of s calls) (number + readers) size' room' (set s.addresses i new)
    (kept_doors_out s (calls_of s calls) number size room size' room' readers connections address kept fits))

pub hands_doors : (s : Stock) (calls items : List MemCall) (counts : FaultCounts) (i readers connections : ℕ)
    (address : List ℕ) (slot new : Named (Option MemAddress)) (it : MemAddress) (doors : List Connections)
    → slot ≡ get_or s.addresses i slot → new.name ≡ slot.name → slot.it ≡ Some it → new.it ≡ None
    → AreFresh readers connections (each_links (Some it)) doors
    → place_in address s.addresses ≡ Some i → items ≡ calls ++ mem.DoorsOut i readers connections ∷ []
    → HandsDoors address readers connections doors (host_of (record { stock = s; calls = calls; counts = counts }))
    (host_of (record { stock = record s { addresses = set s.addresses i new }; calls = items; counts = counts }))
hands_doors s calls items counts i readers connections address slot new it doors slot_is same it_is none fresh at items_is =
    let first = is_first address s.addresses i at in
    let same' = same ∙ ap (λ (x : Named (Option MemAddress)). x.name) slot_is in
    let e = doors_noted s calls items i readers connections address slot new slot_is same at items_is in
    let d = ext (under (λ _. None) each_links (set s.addresses i new)) (put address (each_links new.it) (under (λ _. None) each_links s.addresses))
    (under-set (λ _. None) each_links address s.addresses i new slot first same') in
    let u = under-at (λ _. None) each_links address s.addresses i slot first in
    let links = ap (λ (x : Named (Option MemAddress)). each_links x.it) (sym slot_is) ∙ ap each_links it_is in
    record {
      fresh = subst (λ (l : ℕ → Option (List Stream)). AreFresh readers connections l doors) (sym (u ∙ links)) fresh;
      rest = rw (e, d, none) refl;
    }

-- links are lost
pub lost_links : (s : Stock) (calls : List MemCall) (counts : FaultCounts) (i : ℕ) (slot new : Named (Option MemAddress))
    → slot ≡ get_or s.addresses i slot → new.name ≡ slot.name
    → let before = host_of (record { stock = s; calls = calls; counts = counts }) in
    let after = host_of (record { stock = record s { addresses = set s.addresses i new }; calls = calls; counts = counts }) in
    after ≡ record before { links = after.links }
lost_links s calls counts i slot new slot_is same =
    rw (calls_of-addresses s calls i new slot (same ∙ ap (λ (x : Named (Option MemAddress)). x.name) slot_is)) refl

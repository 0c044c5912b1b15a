-- What becomes of a host that tells a disk, where a command uses it and no call fails.
use Rattle.std.proofs.Common.{◌≡◌, ℕ, Bool, List, length, Option, None, Some, ap, ◌∙◌}
use Rattle.std.specs.Prelude.{IfSome, if◌then◌else◌}
use Rattle.std.proofs.lemmas.Option.{none-some}
use Rattle.plain_laws.specs.Bytes.{bytes_eq-self}
use Rattle.disk_model.specs.Disk.{DiskState}
use Rattle.host.specs.Hosts.{DiskBack, DiskOut, HostState, noted, put}
use Rattle.explorer.specs.Stores.{UsesDisk}
use Rattle.explorer.specs.World.{World}

-- ---- the host

-- a disk came back with this content, and so many disks with faults by then
abbrev back_with : List ℕ → Option (List ℕ) → HostState → ℕ → HostState
back_with store content middle count = record middle {
  calls = noted (DiskBack store) middle.calls;
  disks = put store content middle.disks;
  disk_faults = count;
}

-- a disk was handed out
abbrev handed_out : List ℕ → HostState → HostState
handed_out store before = record before {
  calls = noted (DiskOut store) before.calls;
  disks = put store None before.disks;
}

-- a disk was handed out, and came back with this content
abbrev pub left_by : List ℕ → Option (List ℕ) → HostState → HostState
left_by store content before = back_with store content (handed_out store before) before.disk_faults

pub used : (store : List ℕ) (Does : DiskState → DiskState → Type 0) (before after : HostState)
    → (uses : UsesDisk store Does before after) → after.disk_faults ≡ before.disk_faults
    → after ≡ left_by store uses.returned.content before
used store Does before after uses same =
    let content = uses.returned.content in
    uses.takes.rest
    ∙ ap (λ (h : HostState). back_with store content h after.disk_faults) uses.hands.rest
    ∙ ap (λ (n : ℕ). back_with store content (handed_out store before) n) same

pub stands : (store : List ℕ) (content : Option (List ℕ)) (before : HostState)
    → (left_by store content before).disks store ≡ content
stands store content before =
    ap (λ (b : Bool). if b then content else put store None before.disks store) (bytes_eq-self store)

-- the store was read and refused, and its disk is as it was
abbrev pub refused_in : List ℕ → List ℕ → World → World
refused_in store file before = record before { host = left_by store (Some file) before.host }

-- ---- the disk

pub size_is : (content : Option (List ℕ)) (file : List ℕ) (size : ℕ) → content ≡ Some file
    → IfSome content (λ bytes. length bytes ≡ size) → length file ≡ size
size_is None file size is sized = absurd (none-some file is)
size_is (Some bytes) file size is sized =
    let same : file ≡ bytes = cc in ap length same ∙ sized

-- Statement: what a command does with the disk of its store.
use Rattle.std.specs.Prelude.{◌≡◌, List, ℕ, length, IfSome}
use Rattle.disk_model.specs.Disk.{DiskState}
use Rattle.host.specs.Hosts.{HandsDisk, HostState, TakesDisk}
use Rattle.explorer.specs.World.{World}

-- the size of a disk is that of the bytes that it tells
abbrev pub IsSized : DiskState → Type 0
IsSized disk = IfSome disk.content (λ bytes. length bytes ≡ disk.size)

-- A disk was handed out under the name, came to this, and was given back. Nothing else was asked of
-- the host.
pub record UsesDisk (name : List ℕ) (Does : DiskState → DiskState → Type 0)
    (before after : HostState) : Type 0 where
  pub handed : DiskState
  pub sized : IsSized handed
  pub middle : HostState
  pub hands : HandsDisk name handed before middle
  pub returned : DiskState
  pub does : Does handed returned
  pub takes : TakesDisk name returned middle after

-- nothing but the host is another
abbrev pub OnlyHost : World → World → Type 0
OnlyHost before after = after ≡ record before { host = after.host }

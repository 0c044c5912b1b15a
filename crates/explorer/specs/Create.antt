-- Statement: how a run of the command `create` ends.
use Rattle.std.specs.Prelude.{◌≡◌, ◌≢◌, ℕ, List, IfSome, codes, string_bytes}
use Rattle.disk_model.specs.Disk.{DiskState}
use Rattle.outside.specs.Stream.{FailsToTake, Rises, Takes}
use Rattle.explorer_model.specs.StoreFile.{store_format}
use Rattle.record_log.specs.Log.{empty_file}
use Rattle.record_log.specs.declared.fault.CreateFault.{CreateFault}
use Rattle.record_log.specs.declared.fault.CreateFault.TheVariants as creation
use Rattle.host.specs.Hosts.{RefusesDisk}
use Rattle.explorer.specs.declared.fault.Fault.TheVariants.{CannotOpen, DiskFault, NotEmpty, WriteFault}
use Rattle.explorer.specs.Lines.{Ending, Done, Stopped}
use Rattle.explorer.specs.Stores.{OnlyHost, UsesDisk}
use Rattle.explorer.specs.World.{World}

-- the disk was empty, and what it tells now is the thirteen bytes of a store without a batch
pub record Makes (handed returned : DiskState) : Type 0 where
  pub was_empty : handed.size ≡ 0
  pub bytes : IfSome returned.content (λ bytes. bytes ≡ empty_file store_format)
  pub no_fault : returned.faults ≡ handed.faults

-- the disk was not empty, and is as it was
pub record IsNotEmpty (size : ℕ) (handed returned : DiskState) : Type 0 where
  pub some : size ≢ 0
  pub size_is : size ≡ handed.size
  pub same : returned.content ≡ handed.content

-- a call of the disk failed, and what stood there stands there still
pub record Faults (handed returned : DiskState) : Type 0 where
  pub rises : Rises handed.faults returned.faults
  pub kept : handed.size ≢ 0 → returned.content ≡ handed.content

-- the store was made, and a line was written
pub record Creates (Wrote : List ℕ → Type 0) (store : List ℕ) (before after : World) : Type 0 where
  pub made : UsesDisk store Makes before.host after.host
  pub wrote : Wrote (codes "created\n")
  pub rest : after ≡ record before { output = after.output; host = after.host }

-- a run of `create` by its ending; no other can be
abbrev pub CreatesBy : List ℕ → World → World → Ending → Type 0
CreatesBy store before after Done =
    Creates (λ line. Takes line before.output after.output) store before after
CreatesBy store before after (Stopped WriteFault) =
    Creates (λ line. FailsToTake line before.output after.output) store before after
CreatesBy store before after (Stopped (NotEmpty size)) =
    UsesDisk store (IsNotEmpty size) before.host after.host × OnlyHost before after
CreatesBy store before after (Stopped DiskFault) =
    UsesDisk store Faults before.host after.host
    × Rises before.host.disk_faults after.host.disk_faults × OnlyHost before after
CreatesBy store before after (Stopped (CannotOpen name)) =
    (string_bytes name ≡ store) × RefusesDisk store before.host after.host × OnlyHost before after
CreatesBy store before after (Stopped _) = ⊥

-- each fault of a creation, and what it says of the disk
abbrev pub IsNotMade : CreateFault → DiskState → DiskState → Type 0
IsNotMade (creation.NotEmpty size) handed returned = IsNotEmpty size handed returned
IsNotMade (creation.DiskFault before after) handed returned = Faults handed returned

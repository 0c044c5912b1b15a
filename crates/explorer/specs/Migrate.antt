-- Statement: how a run of the command `migrate` ends.
use Rattle.std.specs.Prelude.{◌≡◌, ◌≢◌, ◌⊎◌, ◌++◌, ℕ, List, [], length, IfSome, String, codes, string_bytes}
use Rattle.std.specs.Global.{Global}
use Rattle.std.specs.Fmt.{decimal}
use Rattle.disk_model.specs.Disk.{DiskState, IsQuiet, LeavesOnly, StaysTold}
use Rattle.outside.specs.Stream.{FailsToTake, Rises, Takes}
use Rattle.explorer_model.specs.declared.archive.Batch.{Batch}
use Rattle.explorer_model.specs.declared.store.LogFault.{LogFault}
use Rattle.explorer_model.specs.declared.store.LogFault.TheVariants as log
use Rattle.record_log.specs.Log.{IsTornOf}
use Rattle.record_log.specs.declared.fault.OpenFault.{OpenFault}
use Rattle.record_log.specs.declared.fault.OpenFault.TheVariants as opening
use Rattle.manifest.specs.First.{HasFirstJournal, IsWithinFirst, IsWrongFirst}
use Rattle.manifest.specs.Manifest.{HasFrontOf, HasJournal}
use Rattle.host.specs.Hosts.{HostState, RefusesDisk}
use Rattle.explorer.specs.declared.fault.Fault.{Fault}
use Rattle.explorer.specs.declared.fault.Fault.TheVariants.{CannotOpen, Damaged, DiskFault, NotAStore, NotEmpty, OtherFormat, OutOfMemory, WriteFault}
use Rattle.explorer.specs.Create.{Faults, IsNotEmpty, Makes}
use Rattle.explorer.specs.Faults.{fault_of_opening}
use Rattle.explorer.specs.Lines.{Ending, Done, Stopped}
use Rattle.explorer.specs.Opened.{FailsUnread, IsUnchanged}
use Rattle.explorer.specs.Stores.{OnlyHost, UsesDisk}
use Rattle.explorer.specs.World.{World}

-- ---- what is printed

-- how many batches were migrated
abbrev pub migrated_line : ℕ → List ℕ
migrated_line batches = codes "migrated " ++ decimal batches ++ codes "\n"

-- ---- the old store, to which nothing is written

-- The disk has this journal in the first format, where it tells its bytes, within that format's
-- limits. It was read without a fault.
pub record ReadsFirst (journal : List Batch) (handed returned : DiskState) : Type 0 where
  pub read : IfSome handed.content (HasFirstJournal journal)
  pub within : IsWithinFirst journal
  pub kept : returned.content ≡ handed.content
  pub no_fault : returned.faults ≡ handed.faults

-- the disk is no store of the first format, by this fault, where it tells its bytes; no call of it
-- failed
pub record IsNoFirst (fault : LogFault) (handed returned : DiskState) : Type 0 where
  pub wrong : IfSome handed.content (IsWrongFirst fault)
  pub kept : returned.content ≡ handed.content
  pub no_fault : returned.faults ≡ handed.faults

-- ---- the new store

-- the disk was empty, and is a store of this journal, where it tells its bytes
pub record MakesOf (journal : List Batch) (handed returned : DiskState) : Type 0 where
  pub was_empty : handed.size ≡ 0
  pub told : StaysTold handed returned
  pub has : IfSome returned.content (HasJournal journal)
  pub no_fault : returned.faults ≡ handed.faults

-- The disk was empty, and is a store of some batches of the journal from the first on, where it
-- tells its bytes.
pub record MakesFrontOf (journal : List Batch) (handed returned : DiskState) : Type 0 where
  pub was_empty : handed.size ≡ 0
  pub told : StaysTold handed returned
  pub has : IfSome returned.content (HasFrontOf [] journal)

-- it is so, and no call of the disk failed
pub record LacksRest (journal : List Batch) (handed returned : DiskState) : Type 0 where
  pub front : MakesFrontOf journal handed returned
  pub no_fault : returned.faults ≡ handed.faults

-- it is so, and a call of the disk failed
pub record BreaksOff (journal : List Batch) (handed returned : DiskState) : Type 0 where
  pub front : MakesFrontOf journal handed returned
  pub rises : Rises handed.faults returned.faults

-- a call of the disk failed: no store was made, or one with a front of the journal
abbrev pub FailsToMake : List Batch → DiskState → DiskState → Type 0
FailsToMake journal handed returned =
    Faults handed returned ⊎ BreaksOff journal handed returned

-- ---- both

-- the old store was read and given back, and this was done of its journal then
pub record ReadsThen (old : List ℕ) (Then : List Batch → HostState → HostState → Type 0)
    (before after : HostState) : Type 0 where
  pub journal : List Batch
  pub between : HostState
  pub reads : UsesDisk old (ReadsFirst journal) before between
  pub next : Then journal between after

-- the new store was made of the journal of the old one, and a line was written
pub record Migrates (Wrote : List ℕ → Type 0) (old new : List ℕ) (before after : World)
    : Type 0 where
  pub stores : ReadsThen old (λ journal. UsesDisk new (MakesOf journal)) before.host after.host
  pub wrote : Wrote (migrated_line (length stores.journal))
  pub rest : after ≡ record before { output = after.output; host = after.host }

-- the old store is refused, and the new one is not asked for
abbrev pub RefusesFirst : LogFault → List ℕ → World → World → Type 0
RefusesFirst fault old before after =
    UsesDisk old (IsNoFirst fault) before.host after.host × OnlyHost before after

-- a run of `migrate` by its ending; no other can be
abbrev pub MigratesBy : List ℕ → List ℕ → World → World → Ending → Type 0
MigratesBy old new before after Done =
    Migrates (λ line. Takes line before.output after.output) old new before after
MigratesBy old new before after (Stopped WriteFault) =
    Migrates (λ line. FailsToTake line before.output after.output) old new before after
MigratesBy old new before after (Stopped NotAStore) = RefusesFirst log.NotALog old before after
MigratesBy old new before after (Stopped (OtherFormat number)) =
    RefusesFirst (log.OtherFormat number) old before after
MigratesBy old new before after (Stopped (Damaged gate)) =
    RefusesFirst (log.Damaged gate) old before after
MigratesBy old new before after (Stopped (NotEmpty size)) =
    ReadsThen old (λ _. UsesDisk new (IsNotEmpty size)) before.host after.host
    × OnlyHost before after
MigratesBy old new before after (Stopped DiskFault) =
    (UsesDisk old FailsUnread before.host after.host
    ⊎ ReadsThen old (λ journal. UsesDisk new (FailsToMake journal)) before.host after.host)
    × Rises before.host.disk_faults after.host.disk_faults × OnlyHost before after
MigratesBy old new before after (Stopped (CannotOpen name)) =
    (((string_bytes name ≡ old) × RefusesDisk old before.host after.host)
    ⊎ ((string_bytes name ≡ new)
    × ReadsThen old (λ _. RefusesDisk new) before.host after.host))
    × OnlyHost before after
MigratesBy old new before after (Stopped OutOfMemory) =
    (UsesDisk old IsUnchanged before.host after.host
    ⊎ ReadsThen old (λ journal. UsesDisk new (LacksRest journal)) before.host after.host)
    × OnlyHost before after
MigratesBy old new before after (Stopped _) = ⊥

-- ---- bridge: what the code comes to on the way

-- what a reading that failed says of the disk
abbrev pub NotReadFirst : OpenFault → DiskState → DiskState → Type 0
NotReadFirst (opening.Log fault) handed returned = IsNoFirst fault handed returned
NotReadFirst (opening.DiskFault before after) handed returned = FailsUnread handed returned
NotReadFirst opening.OutOfMemory handed returned = IsUnchanged handed returned

-- the host has no disk under the name, and that is the fault
pub record CannotHave (name : List ℕ) (fault : Fault) (before after : HostState) : Type 0 where
  pub text : String Global
  pub fault_is : fault ≡ CannotOpen text
  pub text_is : string_bytes text ≡ name
  pub refuses : RefusesDisk name before after

-- the disk was had, and the store on it is not read, which is the fault
pub record CannotRead (name : List ℕ) (fault : Fault) (before after : HostState) : Type 0 where
  pub cause : OpenFault
  pub fault_is : fault ≡ fault_of_opening cause
  pub uses : UsesDisk name (NotReadFirst cause) before after

-- the disk was empty, and a store without a batch was made on it
pub record Begins (handed made : DiskState) : Type 0 where
  pub was_empty : handed.size ≡ 0
  pub told : StaysTold handed made
  pub no_fault : made.faults ≡ handed.faults

-- a store on a disk that was to be made of the journal, by the ending
abbrev pub IsMadeBy : List Batch → DiskState → DiskState → Ending → Type 0
IsMadeBy journal handed returned Done = MakesOf journal handed returned
IsMadeBy journal handed returned (Stopped (NotEmpty size)) = IsNotEmpty size handed returned
IsMadeBy journal handed returned (Stopped DiskFault) = FailsToMake journal handed returned
IsMadeBy journal handed returned (Stopped OutOfMemory) = LacksRest journal handed returned
IsMadeBy journal handed returned (Stopped _) = ⊥

-- the store under the name, by the ending
abbrev pub IsMadeUnder : List ℕ → List Batch → HostState → HostState → Ending → Type 0
IsMadeUnder new journal before after ending =
    ((fault : Fault) × (ending ≡ Stopped fault) × CannotHave new fault before after)
    ⊎ UsesDisk new (λ handed returned. IsMadeBy journal handed returned ending) before after

-- ---- crashes

-- A store without a batch was made on the disk, while a crash left no more than its first thirteen
-- bytes torn. A crash at any moment from then on leaves some batches of the journal, from the first
-- on.
pub record IsMadeSafely {D : Type 0} (disk : D → DiskState) (left_since : D → ℕ → List ℕ → Type 0)
    (journal : List Batch) (handed returned : D) : Type 0 where
  pub made : D
  pub makes : Makes (disk handed) (disk made)
  pub meanwhile : LeavesOnly disk left_since handed made (IsTornOf disk left_since handed 0 13)
  pub since : LeavesOnly disk left_since made returned (HasFrontOf [] journal)

-- No store was made on the disk, of which a call failed. Where it had a byte, nothing was written;
-- else a crash at any moment leaves no more than its first thirteen bytes torn.
pub record IsUnmade {D : Type 0} (disk : D → DiskState) (left_since : D → ℕ → List ℕ → Type 0)
    (handed returned : D) : Type 0 where
  pub faults : Faults (disk handed) (disk returned)
  pub quiet : (disk handed).size ≢ 0 → IsQuiet disk left_since handed returned
  pub since : LeavesOnly disk left_since handed returned (IsTornOf disk left_since handed 0 13)

-- no store was made on the disk, or one was made safely
abbrev pub IsSafe : {D : Type 0} → (D → DiskState) → (D → ℕ → List ℕ → Type 0) → List Batch
    → D → D → Ending → Type 0
IsSafe disk left_since journal handed returned (Stopped (NotEmpty size)) =
    IsQuiet disk left_since handed returned
IsSafe disk left_since journal handed returned (Stopped DiskFault) =
    IsUnmade disk left_since handed returned
    ⊎ IsMadeSafely disk left_since journal handed returned
IsSafe disk left_since journal handed returned _ =
    IsMadeSafely disk left_since journal handed returned

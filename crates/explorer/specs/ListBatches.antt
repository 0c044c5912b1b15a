-- Statement: how a run of the command `batches` ends.
use Rattle.std.specs.Prelude.{◌≡◌, ◌++◌, ℕ, suc, List, [], ◌∷◌, length, Vec, Result, Ok, Err, codes, string_bytes}
use Rattle.std.specs.Global.{Global}
use Rattle.std.specs.Fmt.{decimal}
use Rattle.disk_model.specs.Disk.{DiskState}
use Rattle.outside.specs.Stream.{FailsToTake, Rises, Takes}
use Rattle.explorer_model.specs.declared.archive.Batch.{Batch}
use Rattle.explorer_model.specs.declared.store.LogFault.TheVariants as log
use Rattle.record_log.specs.declared.fault.OpenFault.{OpenFault}
use Rattle.record_log.specs.declared.fault.OpenFault.TheVariants as opening
use Rattle.host.specs.Hosts.{RefusesDisk}
use Rattle.explorer.specs.declared.fault.Fault.TheVariants.{CannotOpen, Damaged, DiskFault, NotAStore, OtherFormat, OutOfMemory, WriteFault}
use Rattle.explorer.specs.Lines.{Ending, Done, Stopped}
use Rattle.explorer.specs.Opened.{FailsUnread, IsUnchanged, NotOpened, OpensTo, RefusesStore}
use Rattle.explorer.specs.Stores.{OnlyHost, UsesDisk}
use Rattle.explorer.specs.World.{World}

-- ---- what is printed

-- the number of a batch, how many games it has, and its label, which may be empty
abbrev pub batch_line : ℕ → Batch → List ℕ
batch_line number batch =
    decimal number ++ codes " " ++ decimal (length batch.texts) ++ codes " " ++ batch.label
    ++ codes "\n"

-- a line for each batch, of which the first has this number
abbrev pub batch_lines : ℕ → List Batch → List ℕ
batch_lines number [] = []
batch_lines number (batch ∷ batches) = batch_line number batch ++ batch_lines (suc number) batches

-- ---- the endings

-- the batches of the store's journal were written as lines, numbered from 1
pub record Lists (Wrote : List ℕ → Type 0) (store : List ℕ) (before after : World) : Type 0 where
  pub journal : List Batch
  pub read : UsesDisk store (OpensTo journal) before.host after.host
  pub wrote : Wrote (batch_lines 1 journal)
  pub rest : after ≡ record before { output = after.output; host = after.host }

-- a run of `batches` by its ending; no other can be
abbrev pub ListsBy : List ℕ → World → World → Ending → Type 0
ListsBy store before after Done =
    Lists (λ lines. Takes lines before.output after.output) store before after
ListsBy store before after (Stopped WriteFault) =
    Lists (λ lines. FailsToTake lines before.output after.output) store before after
ListsBy store before after (Stopped NotAStore) = RefusesStore log.NotALog store before after
ListsBy store before after (Stopped (OtherFormat number)) =
    RefusesStore (log.OtherFormat number) store before after
ListsBy store before after (Stopped (Damaged gate)) =
    RefusesStore (log.Damaged gate) store before after
ListsBy store before after (Stopped DiskFault) =
    UsesDisk store FailsUnread before.host after.host
    × Rises before.host.disk_faults after.host.disk_faults × OnlyHost before after
ListsBy store before after (Stopped (CannotOpen name)) =
    (string_bytes name ≡ store) × RefusesDisk store before.host after.host × OnlyHost before after
ListsBy store before after (Stopped OutOfMemory) =
    UsesDisk store IsUnchanged before.host after.host × OnlyHost before after
ListsBy store before after (Stopped _) = ⊥

-- ---- bridge: what the code comes to on the way

-- the lines are those of the batches, or memory was refused
abbrev pub ListsIn : List Batch → Result (Vec ℕ Global) OpenFault → Type 0
ListsIn journal (Ok lines) = lines.items ≡ batch_lines 1 journal
ListsIn journal (Err fault) = fault ≡ opening.OutOfMemory

-- the lines of the batches of the store on a disk, or why there are none
abbrev pub ListsAt : DiskState → DiskState → Result (Vec ℕ Global) OpenFault → Type 0
ListsAt handed returned (Ok lines) =
    (journal : List Batch) × OpensTo journal handed returned
    × (lines.items ≡ batch_lines 1 journal)
ListsAt handed returned (Err fault) = NotOpened fault handed returned

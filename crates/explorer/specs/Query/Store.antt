-- Statement: how a run of the command `query` ends.
use Rattle.std.specs.Prelude.{◌≡◌, ◌⊎◌, ℕ, List, Option, Vec, Result, Ok, Err, string_bytes}
use Rattle.std.specs.Global.{Global}
use Rattle.disk_model.specs.Disk.{DiskState}
use Rattle.outside.specs.Stream.{FailsToTake, Rises, Takes}
use Rattle.explorer_model.specs.declared.answer.Found.{Found}
use Rattle.explorer_model.specs.declared.archive.Batch.{Batch}
use Rattle.explorer_model.specs.declared.opening.Naming.{Naming}
use Rattle.explorer_model.specs.declared.query.BadParameter as query_fault
use Rattle.explorer_model.specs.declared.query.Query.{Query}
use Rattle.explorer_model.specs.declared.store.LogFault.TheVariants as log
use Rattle.explorer_model.specs.Finds.{IsFound}
use Rattle.explorer_model.specs.Openings.{NamedPosition}
use Rattle.explorer_model.specs.Query.{QueryReads}
use Rattle.record_log.specs.declared.fault.OpenFault.{OpenFault}
use Rattle.record_log.specs.declared.fault.OpenFault.TheVariants as opening
use Rattle.host.specs.Hosts.{RefusesDisk}
use Rattle.explorer.specs.declared.fault.Fault.TheVariants.{BadParameter, CannotOpen, Damaged, DiskFault, NotAStore, OtherFormat, OutOfMemory, WriteFault}
use Rattle.explorer.specs.Answer.{IsAnswer, IsNamingOf, answer_line}
use Rattle.explorer.specs.Book.{NamedBy}
use Rattle.explorer.specs.Lines.{Ending, Done, Stopped}
use Rattle.explorer.specs.Opened.{FailsUnread, IsUnchanged, NotOpened, OpensTo, RefusesStore}
use Rattle.explorer.specs.Stores.{OnlyHost, UsesDisk}
use Rattle.explorer.specs.World.{World}

-- what is found in the store's journal was written as a line, with the openings of the book
pub record Answers (Wrote : List ℕ → Type 0) (store : List ℕ) (query : Query)
    (book : List NamedPosition) (before after : World) : Type 0 where
  pub journal : List Batch
  pub read : UsesDisk store (OpensTo journal) before.host after.host
  pub found : Found
  pub is_found : IsFound journal query found
  pub naming : Naming
  pub is_naming : IsNamingOf book query found naming
  pub wrote : Wrote (answer_line found naming)
  pub rest : after ≡ record before { output = after.output; host = after.host }

-- an answer to a query by a book, by its ending; no other can be
abbrev pub AsksBy : List ℕ → Query → List NamedPosition → World → World → Ending → Type 0
AsksBy store query book before after Done =
    Answers (λ line. Takes line before.output after.output) store query book before after
AsksBy store query book before after (Stopped WriteFault) =
    Answers (λ line. FailsToTake line before.output after.output) store query book before after
AsksBy store query book before after (Stopped NotAStore) =
    RefusesStore log.NotALog store before after
AsksBy store query book before after (Stopped (OtherFormat number)) =
    RefusesStore (log.OtherFormat number) store before after
AsksBy store query book before after (Stopped (Damaged gate)) =
    RefusesStore (log.Damaged gate) store before after
AsksBy store query book before after (Stopped DiskFault) =
    UsesDisk store FailsUnread before.host after.host
    × Rises before.host.disk_faults after.host.disk_faults × OnlyHost before after
AsksBy store query book before after (Stopped (CannotOpen name)) =
    (string_bytes name ≡ store) × RefusesDisk store before.host after.host × OnlyHost before after
AsksBy store query book before after (Stopped OutOfMemory) =
    UsesDisk store IsUnchanged before.host after.host × OnlyHost before after
AsksBy store query book before after (Stopped _) = ⊥

-- what a query and a book come to
abbrev pub Asking : Type 1
Asking = Query → List NamedPosition → World → World → Ending → Type 0

-- a run by what the query reads as; the file of openings is read before all else is asked for
abbrev pub AsksFor : Asking → Option (List ℕ) → Result Query query_fault.BadParameter → World
    → World → Ending → Type 0
AsksFor Asks openings (Err bad) before after ending =
    (ending ≡ Stopped (BadParameter bad.name)) × (after ≡ before)
AsksFor Asks openings (Ok query) before after ending =
    NamedBy openings (Asks query) before after ending

-- a run of `query` by its ending, where this is what is asked by its query and its book
abbrev pub QueriesBy : Asking → List ℕ → Option (List ℕ) → World → World → Ending → Type 0
QueriesBy Asks text openings before after ending =
    ((ending ≡ Stopped OutOfMemory) × (after ≡ before))
    ⊎ ((query : Result Query query_fault.BadParameter)
    × QueryReads text query × AsksFor Asks openings query before after ending)

-- ---- bridge: what the code comes to on the way

-- the line is this answer, or memory was refused
abbrev pub LooksIn : List NamedPosition → Query → List Batch → Result (Vec ℕ Global) OpenFault
    → Type 0
LooksIn book query journal (Ok line) = IsAnswer book query journal line
LooksIn book query journal (Err fault) = fault ≡ opening.OutOfMemory

-- the line that answers a query over the store on a disk, or why there is none
abbrev pub LooksAt : List NamedPosition → Query → DiskState → DiskState
    → Result (Vec ℕ Global) OpenFault → Type 0
LooksAt book query handed returned (Ok line) =
    (journal : List Batch) × OpensTo journal handed returned × IsAnswer book query journal line
LooksAt book query handed returned (Err fault) = NotOpened fault handed returned

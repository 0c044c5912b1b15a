-- Bridge: the faults that calls of other crates come to.
use Rattle.std.specs.Prelude.{◌≡◌, ◌⊎◌, ◌<◌, ◌≤◌, ℕ, Option, None, Some}
use Rattle.explorer_model.specs.declared.fault.Stop.{Stop}
use Rattle.explorer_model.specs.declared.fault.Stop.TheVariants as stops
use Rattle.explorer_model.specs.declared.query.BadParameter as query_fault
use Rattle.explorer_model.specs.declared.store.LogFault.TheVariants as log
use Rattle.ingest_desk.specs.declared.report.ImportEnding.{ImportEnding}
use Rattle.ingest_desk.specs.declared.report.ImportEnding.TheVariants as endings
use Rattle.ingest_desk.specs.declared.spill_fault.SpillOpenFault.{SpillOpenFault}
use Rattle.ingest_desk.specs.declared.spill_fault.SpillOpenFault.TheVariants as spilling
use Rattle.spill_blobs.specs.declared.port_fault.PortFault.TheVariants as ports
use Rattle.record_log.specs.declared.fault.AppendFault.{AppendFault}
use Rattle.record_log.specs.declared.fault.AppendFault.TheVariants as append
use Rattle.record_log.specs.declared.fault.CreateFault.{CreateFault}
use Rattle.record_log.specs.declared.fault.CreateFault.TheVariants as creation
use Rattle.record_log.specs.declared.fault.OpenFault.{OpenFault}
use Rattle.record_log.specs.declared.fault.OpenFault.TheVariants as opening
use Rattle.explorer.specs.declared.fault.Fault.{Fault}
use Rattle.explorer.specs.declared.fault.Fault.TheVariants.{BadParameter, Damaged, DiskFault, Full, NotAStore, NotEmpty, OtherFormat, OutOfMemory, ReadFault, SpillDamaged, SpillFault, TooMuchInput}

abbrev pub fault_of_query : Stop query_fault.BadParameter → Fault
fault_of_query (stops.Fault bad) = BadParameter bad.name
fault_of_query stops.OutOfMemory = OutOfMemory

-- an import that ends early; an end by a disk fault or by a closed store is told as this fault
abbrev pub fault_at : Fault → ImportEnding → Option Fault
fault_at at_store endings.Whole = None
fault_at at_store (endings.ReadFault before after) = Some ReadFault
fault_at at_store (endings.DiskFault before after) = Some at_store
fault_at at_store (endings.Closed before after) = Some at_store
fault_at at_store (endings.Full games bytes) = Some (Full games bytes)
fault_at at_store (endings.TooMuch bytes) = Some TooMuchInput
fault_at at_store endings.OutOfMemory = Some OutOfMemory

-- of a store that nobody else has; none ends `Closed` whose store was open before it
abbrev pub fault_by : ImportEnding → Option Fault
fault_by ending = fault_at DiskFault ending

-- a store that is not made
abbrev pub fault_of_creation : CreateFault → Fault
fault_of_creation (creation.NotEmpty size) = NotEmpty size
fault_of_creation (creation.DiskFault before after) = DiskFault

-- a batch that is not stored; none is `Closed` where no call of the disk failed before
abbrev pub fault_of_append : AppendFault → Fault
fault_of_append (append.Closed before after) = DiskFault
fault_of_append (append.DiskFault before after) = DiskFault
fault_of_append append.OutOfMemory = OutOfMemory

-- a store that is not opened
abbrev pub fault_of_opening : OpenFault → Fault
fault_of_opening (opening.Log log.NotALog) = NotAStore
fault_of_opening (opening.Log (log.OtherFormat number)) = OtherFormat number
fault_of_opening (opening.Log (log.Damaged at)) = Damaged at
fault_of_opening (opening.DiskFault before after) = DiskFault
fault_of_opening opening.OutOfMemory = OutOfMemory

-- an answer through a scratch file that is not there
abbrev pub fault_of_spilling : SpillOpenFault → Fault
fault_of_spilling (spilling.Store fault) = fault_of_opening fault
fault_of_spilling (spilling.Port (ports.ReadFault before after)) = SpillFault
fault_of_spilling (spilling.Port (ports.Damaged part)) = SpillDamaged part
fault_of_spilling (spilling.Port (ports.WriteFault before after)) = SpillFault

-- Why a store is not opened, by how many calls of its disk have failed before and after: one failed,
-- or else what was found.
abbrev pub FirstCause : ℕ → ℕ → OpenFault → OpenFault → Type 0
FirstCause before after found told =
    ((before < after) × (told ≡ opening.DiskFault before after))
    ⊎ ((after ≤ before) × (told ≡ found))

-- Bridge: how a group ends an import.
use Rattle.std.specs.Prelude.{◌≡◌, ℕ, List, Option, Some, Result, Ok, Err}
use Rattle.explorer_model.specs.declared.fault.Stop.{Stop}
use Rattle.explorer_model.specs.declared.fault.Stop.TheVariants as stops
use Rattle.explorer_model.specs.Cuts.{Cut}
use Rattle.ingest_desk.specs.declared.fault.CommitFault.{CommitFault}
use Rattle.ingest_desk.specs.declared.fault.CommitFault.TheVariants as faults
use Rattle.ingest_desk.specs.declared.report.End.{End}
use Rattle.ingest_desk.specs.declared.report.End.TheVariants as ends
use Rattle.import_run.specs.declared.open_import.Stopped.{Stopped}
use Rattle.import_run.specs.Committing.{Known, Store}
use Rattle.import_run.specs.Rounds.{IsDecided, Settles}

-- the end of an import whose batch was refused so
abbrev pub IsEndOf : {J : Type 0} → CommitFault J → End J → Type 0
IsEndOf (faults.Closed before after mark) end = end ≡ ends.Closed before after mark
IsEndOf (faults.Clash handed pairs note) end = end ≡ ends.OutOfMemory
IsEndOf (faults.Full games bytes note) end = end ≡ ends.Full games bytes note
IsEndOf (faults.DiskFault before after mark) end = end ≡ ends.DiskFault before after mark
IsEndOf (faults.OutOfMemory stored) end = end ≡ ends.OutOfMemory

-- a commit ended the import, or memory was wanting
abbrev pub BreaksBy : {J : Type 0} → Stop (Stopped J) → (Stopped J → Type 0) → Type 0 → Type 0
BreaksBy (stops.Fault stopped) breaks lacks = breaks stopped
BreaksBy stops.OutOfMemory breaks lacks = lacks

-- it goes on, or not
abbrev pub ByStop : {J T : Type 0} → Result T (Stop (Stopped J)) → Type 0
    → (Stopped J → Type 0) → Type 0 → Type 0
ByStop (Ok done) goes breaks lacks = goes
ByStop (Err stop) goes breaks lacks = BreaksBy stop breaks lacks

-- a commit of the group's new texts ended the import
pub record StopsAt {J : Type 0} (label : List ℕ) (known : Known) (hand : List Cut)
    (stopped : Stopped J) (told : Option Store) : Type 0 where
  pub fault : CommitFault J
  pub is_end : IsEndOf fault stopped.end
  pub decided : IsDecided {J = J} (Err fault)
  pub settled : Settles label known hand stopped.refused.items (Some (Err fault)) told

-- the import ended at a group, whatever stands behind it
abbrev pub EndsEarly : {J : Type 0} → End J → Type 0
EndsEarly ends.Whole = ⊥
EndsEarly (ends.ReadFault before after) = ⊥
EndsEarly (ends.TooMuch bytes) = ⊥
EndsEarly _ = Unit {0}

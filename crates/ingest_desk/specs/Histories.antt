-- Statement: what happens to a store, one thing after another.
use Rattle.std.specs.Prelude.{◌≡◌, ◌⊎◌, ℕ, List, [], ◌∷◌, Result, Ok}
use Rattle.std.specs.List.{flat_map}
use Rattle.disk_model.specs.Disk.{DiskState, MayLeave}
use Rattle.explorer_model.specs.declared.archive.Batch.{Batch}
use Rattle.tally_rows.specs.Tally.{Counted}
use Rattle.ingest_desk.specs.Living.{IsCommit, IsOpening, StoresNothing}
use Rattle.ingest_desk.specs.Stored.{Stored}
use Rattle.ingest_desk.specs.declared.fault.CommitFault.{CommitFault}
use Rattle.ingest_desk.specs.declared.receipt.Receipt.{Receipt}

pub data Step (J : Type 0) : Type 0 where
  -- a tally was committed, and this was the answer
  Commits : Counted → Result (Receipt J) (CommitFault J) → Step J
  -- a tally was being committed when a crash left this file, which was opened
  Crashes : Counted → List ℕ → Step J
  -- this file was opened, which a crash left between two calls, or which the disk gives back
  Opens : List ℕ → Step J
  -- another call, which stores nothing
  Rests : Step J

-- the file was left at some moment of a commit, which had gone on to some answer
pub record IsCutOff {D : Type 0} (J : Type 0) (disk : D → DiskState)
    (left_since : D → ℕ → List ℕ → Type 0) (tally : Counted) (old : Stored D) (file : List ℕ)
    : Type 0 where
  pub middle : Stored D
  pub answer : Result (Receipt J) (CommitFault J)
  pub committed : IsCommit disk left_since tally old middle answer
  pub left : left_since middle.manifest.disk (disk old.manifest.disk).moment file

-- a crash leaves the file now, or at some moment of one more commit
abbrev pub MayBeLeft : {D : Type 0} → (J : Type 0) → (D → DiskState)
    → (D → ℕ → List ℕ → Type 0) → Stored D → List ℕ → Type 0
MayBeLeft J disk left_since store file =
    MayLeave disk left_since store.manifest.disk file
    ⊎ ((tally : Counted) × IsCutOff J disk left_since tally store file)

abbrev pub IsStep : {D J : Type 0} → (D → DiskState) → (D → ℕ → List ℕ → Type 0) → Stored D
    → Step J → Stored D → Type 0
IsStep disk left_since old (Commits tally answer) new =
    IsCommit disk left_since tally old new answer
IsStep {J = J} disk left_since old (Crashes tally file) new =
    IsCutOff J disk left_since tally old file × IsOpening disk left_since file new
IsStep disk left_since old (Opens file) new =
    MayLeave disk left_since old.manifest.disk file × IsOpening disk left_since file new
IsStep disk left_since old Rests new = StoresNothing old new

-- the steps lead from one store to another
abbrev pub AreSteps : {D J : Type 0} → (D → DiskState) → (D → ℕ → List ℕ → Type 0) → Stored D
    → List (Step J) → Stored D → Type 0
AreSteps disk left_since old [] new = new ≡ old
AreSteps {D = D} disk left_since old (step ∷ steps) new =
    (middle : Stored D) × IsStep disk left_since old step middle
    × AreSteps disk left_since middle steps new

-- the batches of the commits that answered Ok
abbrev pub acknowledged_by : {J : Type 0} → Step J → List Batch
acknowledged_by (Commits tally (Ok receipt)) = tally.batch ∷ []
acknowledged_by _ = []

abbrev pub acknowledged_in : {J : Type 0} → List (Step J) → List Batch
acknowledged_in steps = flat_map acknowledged_by steps

-- Bridge: groups of cuts that are settled one after another, by their commits.
use Rattle.std.specs.Prelude.{◌≡◌, ◌<◌, ⊤, ℕ, List, [], ◌∷◌, ◌++◌, Option, None, Some, Result, Ok, Err}
use Rattle.std.specs.List.{AllByRecursion, AllZip, Contains, cons_option, flat_map}
use Rattle.explorer_model.specs.declared.archive.Batch.{Batch}
use Rattle.explorer_model.specs.declared.fault.Refusal.{Refusal}
use Rattle.explorer_model.specs.Cuts.{Cut}
use Rattle.ingest_desk.specs.declared.fault.CommitFault.{CommitFault}
use Rattle.ingest_desk.specs.declared.receipt.Receipt.{Receipt}
use Rattle.import_run.specs.declared.open_import.OpenImport.{OpenImport}
use Rattle.import_run.specs.declared.open_import.Stopped.{Stopped}
use Rattle.import_run.specs.Answered.{Allows, Clashes, Committed, Tells, notes_of}
use Rattle.import_run.specs.Committing.{Store}
use Rattle.import_run.specs.Importing.{IsEndOf}
use Rattle.import_run.specs.Rounds.{GroupBy, IsDecided, answer_in, handed_in}

-- ---- one group

-- the commits of a group: clashes, and behind them maybe one more; and what of it is refused
pub record GroupCommits (J : Type 0) : Type 0 where
  pub refused : List Refusal
  pub clashes : List (Committed J)
  pub last : Option (Committed J)

abbrev pub commits_in : {J : Type 0} → GroupCommits J → List (Committed J)
commits_in group = group.clashes ++ cons_option group.last []

-- the last commit hands over the rest of the cuts under the label; where nothing is left, there is
-- none
pub record IsCommittedBy {J : Type 0} (label : List ℕ) (cuts : List Cut) (group : GroupCommits J)
    : Type 0 where
  pub by : GroupBy label cuts (handed_in group.last) group.refused group.clashes
  pub clashed : AllByRecursion (λ commit. Clashes commit.answer) group.clashes

-- nothing was left, or it was stored
abbrev pub GoesOn : {J : Type 0} → Option (Result (Receipt J) (CommitFault J)) → Type 0
GoesOn None = ⊤
GoesOn (Some (Ok receipt)) = ⊤
GoesOn (Some (Err fault)) = ⊥

pub record IsSettledBy {J : Type 0} (label : List ℕ) (cuts : List Cut) (group : GroupCommits J)
    : Type 0 where
  pub committed : IsCommittedBy label cuts group
  pub goes_on : GoesOn (answer_in group.last)

-- ---- groups

abbrev pub commits_of : {J : Type 0} → List (GroupCommits J) → List (Committed J)
commits_of groups = flat_map (λ group. commits_in group) groups

abbrev pub refused_of : {J : Type 0} → List (GroupCommits J) → List Refusal
refused_of groups = flat_map (λ group. group.refused) groups

abbrev pub receipt_of : {J : Type 0} → Result (Receipt J) (CommitFault J) → List (Receipt J)
receipt_of (Ok receipt) = receipt ∷ []
receipt_of (Err fault) = []

abbrev pub receipts_of : {J : Type 0} → List (Committed J) → List (Receipt J)
receipts_of [] = []
receipts_of (commit ∷ commits) = receipt_of commit.answer ++ receipts_of commits

-- each receipt tells of more batches than the one before it, and the first of more than so many
abbrev pub TellOfMore : {J : Type 0} → ℕ → List (Receipt J) → Type 0
TellOfMore batches [] = ⊤
TellOfMore batches (receipt ∷ receipts) =
    (batches < receipt.batches) × TellOfMore receipt.batches receipts

-- the journals are among the notes
abbrev pub AreNoted : List (List Batch) → List (List Batch) → Type 0
AreNoted notes journals = AllByRecursion (λ journal. Contains notes journal) journals

-- The groups are settled by their commits. The import has the receipts, the refusals and the notes.
pub record IsSettledSo {J : Type 0} (start : Option Store) (groups : List (List Cut))
    (import : OpenImport J) (told : Option Store) : Type 0 where
  pub by : List (GroupCommits J)
  pub each : AllZip (IsSettledBy import.group.label) groups by
  pub tells : Tells start (commits_of by) told
  pub allows : AllByRecursion Allows (commits_of by)
  pub receipts : import.receipts.items ≡ receipts_of (commits_of by)
  pub more : TellOfMore 0 import.receipts.items
  pub refused : import.refused.items ≡ refused_of by
  pub notes : AreNoted import.clashes.items (notes_of (commits_of by))

-- ---- a group that ended an import

-- the last commit of the group was refused
pub record IsStoppedBy {J : Type 0} (label : List ℕ) (cuts : List Cut) (notes : List (List Batch))
    (before : Option Store) (stopped : Stopped J) (told : Option Store) : Type 0 where
  pub by : GroupCommits J
  pub committed : IsCommittedBy label cuts by
  pub fault : CommitFault J
  pub answer : answer_in by.last ≡ Some (Err fault)
  pub decided : IsDecided {J = J} (Err fault)
  pub is_end : IsEndOf fault stopped.end
  pub refused : stopped.refused.items ≡ by.refused
  pub tells : Tells before (commits_in by) told
  pub allows : AllByRecursion Allows (commits_in by)
  pub noted : AreNoted notes (notes_of by.clashes)

-- Bridge: commits, one after another, each with its answer.
use Rattle.std.specs.Prelude.{◌≡◌, List, [], ◌∷◌, ◌++◌, Option, Some, Result, Err}
use Rattle.std.specs.List.{AllByRecursion, cons_option}
use Rattle.explorer_model.specs.declared.archive.Batch.{Batch}
use Rattle.published_index.specs.Places.{Drawing}
use Rattle.tally_rows.specs.Tally.{Counted}
use Rattle.ingest_desk.specs.declared.fault.CommitFault.{CommitFault}
use Rattle.ingest_desk.specs.declared.fault.CommitFault.TheVariants as faults
use Rattle.ingest_desk.specs.declared.receipt.Receipt.{Receipt}
use Rattle.import_run.specs.Beside.{AnswersTo}
use Rattle.import_run.specs.Committing.{Commits, IsClash, Known, Store, store_of}
use Rattle.import_run.specs.Draws.{DrawsPlace}

-- a tally that was handed over, and the answer
pub record Committed (J : Type 0) : Type 0 where
  pub handed : Counted
  pub answer : Result (Receipt J) (CommitFault J)

-- ---- what commits do

-- where the store is known, each does to it what its answer says
abbrev pub Tells : {J : Type 0} → Option Store → List (Committed J) → Option Store → Type 0
Tells old [] new = new ≡ old
Tells old (commit ∷ commits) new = (next : Option Store)
    × ((known : Known) → old ≡ Some (store_of known)
    → Commits commit.answer known commit.handed next)
    × Tells next commits new

-- what an answer tells by itself, whoever else stores there
pub record Allows {J : Type 0} (commit : Committed J) : Type 0 where
  pub clash : IsClash commit.answer commit.handed
  pub answers : AnswersTo commit.answer commit.handed

-- the places of the batches are drawn
abbrev pub DrawsEach : {J : Type 0} → Drawing → List (Committed J) → Drawing → Type 0
DrawsEach old [] new = new ≡ old
DrawsEach old (commit ∷ commits) new =
    (next : Drawing) × DrawsPlace commit.answer old next × DrawsEach next commits new

-- the commits were made, one after another
pub record Ran {J : Type 0} (commits : List (Committed J)) (told told_after : Option Store)
    (drawing drawing_after : Drawing) : Type 0 where
  pub tells : Tells told commits told_after
  pub allows : AllByRecursion Allows commits
  pub draws : DrawsEach drawing commits drawing_after

-- ---- clashes

abbrev pub Clashes : {J : Type 0} → Result (Receipt J) (CommitFault J) → Type 0
Clashes (Err (faults.Clash handed pairs note)) = Unit {0}
Clashes _ = ⊥

abbrev pub note_of : {J : Type 0} → Result (Receipt J) (CommitFault J) → List (List Batch)
note_of (Err (faults.Clash handed pairs note)) = note ∷ []
note_of _ = []

-- the journals that the clashes tell of
abbrev pub notes_of : {J : Type 0} → List (Committed J) → List (List Batch)
notes_of [] = []
notes_of (commit ∷ commits) = note_of commit.answer ++ notes_of commits

-- ---- the commits of a group

-- Commits of one group: clashes, whose journals are noted, and behind them maybe one more.
pub record Runs (J : Type 0) (notes notes_after : List (List Batch))
    (told told_after : Option Store) (drawing drawing_after : Drawing) : Type 0 where
  pub clashes : List (Committed J)
  pub last : Option (Committed J)
  pub ran : Ran (clashes ++ cons_option last []) told told_after drawing drawing_after
  pub clashed : AllByRecursion (λ commit. Clashes commit.answer) clashes
  pub noted : notes_after ≡ notes ++ notes_of clashes

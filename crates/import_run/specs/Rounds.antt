-- Bridge: a group whose batch is committed again and again, each time without the texts whose ids
-- were found to be stored.
use Rattle.std.specs.Prelude.{◌≡◌, ◌⊎◌, ◌<◌, ⊤, ℕ, List, [], ◌∷◌, ◌++◌, length, map, Option, None, Some, IfSome, MatchOption, Result, Ok, Err}
use Rattle.std.specs.List.{AllZip}
use Rattle.std.specs.Option.{option_map}
use Rattle.explorer_model.specs.declared.archive.Batch.{Batch}
use Rattle.explorer_model.specs.declared.archive.Game.{Game}
use Rattle.explorer_model.specs.declared.fault.Refusal.{Refusal}
use Rattle.explorer_model.specs.Cuts.{Cut}
use Rattle.explorer_model.specs.Imports.{Examination, IsExaminationOf, Candidate, Numbering, batch_of, numbers_of, verdicts}
use Rattle.published_index.specs.Places.{Drawing}
use Rattle.tally_rows.specs.Tally.{Counted}
use Rattle.ingest_desk.specs.declared.fault.CommitFault.{CommitFault}
use Rattle.ingest_desk.specs.declared.fault.CommitFault.TheVariants as faults
use Rattle.ingest_desk.specs.declared.receipt.Receipt.{Receipt}
use Rattle.import_run.specs.declared.settle.Done.{Done}
use Rattle.import_run.specs.declared.settle.Round.{Round}
use Rattle.import_run.specs.declared.settle.Round.TheVariants.{Ended, Again}
use Rattle.import_run.specs.declared.text_group.TalliedGroup.{TalliedGroup}
use Rattle.import_run.specs.Answered.{Committed, Runs, notes_of}
use Rattle.import_run.specs.Beside.{AreNamed}
use Rattle.import_run.specs.Committing.{Commits, Known, Store, store_of}
use Rattle.import_run.specs.Grouping.{Ascend, IsTallied}
use Rattle.import_run.specs.Hand.{InHand}
use Rattle.import_run.specs.Labelling.{CountsUnder, IsTallyUnder}
use Rattle.import_run.specs.Settling.{kept, lost}

-- ---- a group by its commits

-- The texts whose ids are named in journals of the clashes are refused with their numbers, and the
-- others are the tally, under the label.
pub record GroupBy {J : Type 0} (label : List ℕ) (cuts : List Cut) (tally : Option Counted)
    (refused : List Refusal) (clashes : List (Committed J)) : Type 0 where
  pub examinations : List Examination
  pub are_examinations : AllZip IsExaminationOf cuts examinations
  pub number : Numbering
  pub named : AreNamed (notes_of clashes) number
  pub refused_are : refused ≡ lost number (verdicts examinations)
  pub made : IsTallyUnder label (kept number (verdicts examinations)) tally

-- the same between two commits, where the texts of the tally have these places
pub record Rounds {J : Type 0} (label : List ℕ) (cuts : List Cut) (tally : Option Counted)
    (places : List ℕ) (refused : List Refusal) (clashes : List (Committed J)) : Type 0 where
  pub ascend : Ascend cuts
  pub by : GroupBy label cuts tally refused clashes
  pub places_are : places ≡ map (λ c. c.place) (kept by.number (verdicts by.examinations))

-- how many texts a tally has
abbrev pub size_of : Option Counted → ℕ
size_of None = 0
size_of (Some counted) = length counted.batch.texts

-- the batch was refused or stored: the answer is no clash, and no want of memory
abbrev pub IsDecided : {J : Type 0} → Result (Receipt J) (CommitFault J) → Type 0
IsDecided (Err (faults.Clash handed pairs note)) = ⊥
IsDecided (Err (faults.OutOfMemory stored)) = ⊥
IsDecided _ = Unit {0}

-- the answer of what was done, if there is one, is decided
abbrev pub AnswerDecided : {J : Type 0} → Option (Result (Receipt J) (CommitFault J)) → Type 0
AnswerDecided None = Unit {0}
AnswerDecided (Some answer) = IsDecided answer

-- memory was wanting for the commit
abbrev pub IsLacking : {J : Type 0} → Result (Receipt J) (CommitFault J) → Type 0
IsLacking (Err (faults.OutOfMemory stored)) = Unit {0}
IsLacking _ = ⊥

abbrev pub handed_in : {J : Type 0} → Option (Committed J) → Option Counted
handed_in last = option_map (λ commit. commit.handed) last

abbrev pub answer_in : {J : Type 0} → Option (Committed J)
    → Option (Result (Receipt J) (CommitFault J))
answer_in last = option_map (λ commit. commit.answer) last

-- The rest of the texts are handed over by the last commit, and its answer is decided; where nothing
-- is left, there is none.
pub record SettlesBy {J : Type 0} (tallied : TalliedGroup) (done : Done J)
    (clashes : List (Committed J)) (last : Option (Committed J)) : Type 0 where
  pub answer : done.answer ≡ answer_in last
  pub decided : AnswerDecided done.answer
  pub group : (label : List ℕ) (cuts : List Cut) → Ascend cuts → IsTallied label cuts tallied
      → GroupBy label cuts (handed_in last) done.refused.items clashes

-- memory was wanting for the last commit, which handed the rest of the texts over
pub record LacksFor {J : Type 0} (tallied : TalliedGroup) (clashes : List (Committed J))
    (last : Committed J) : Type 0 where
  pub lacking : IsLacking last.answer
  pub refused : List Refusal
  pub group : (label : List ℕ) (cuts : List Cut) → Ascend cuts → IsTallied label cuts tallied
      → GroupBy label cuts (Some last.handed) refused clashes

-- By whether the group is settled. Memory may be wanting before a commit, too.
abbrev pub ComesBy : {J E : Type 0} → Result (Done J) E → TalliedGroup → List (Committed J)
    → Option (Committed J) → Type 0
ComesBy (Ok done) tallied clashes last = SettlesBy tallied done clashes last
ComesBy (Err fault) tallied clashes last = MatchOption last ⊤ (LacksFor tallied clashes)

-- what became of a group that was tallied, by its commits
pub record Comes {J E : Type 0} (result : Result (Done J) E) (tallied : TalliedGroup)
    (notes notes_after : List (List Batch)) (told told_after : Option Store)
    (drawing drawing_after : Drawing) : Type 0 where
  pub runs : Runs J notes notes_after told told_after drawing drawing_after
  pub comes : ComesBy result tallied runs.clashes runs.last

-- ---- one commit of a group

-- some ids are stored, and the rest, which is shorter, is tallied again
pub record GoesAgain {J : Type 0} (state : TalliedGroup) (counted : Counted) (places : List ℕ)
    (refused : List Refusal) (clashes : List (Committed J)) (last : Option (Committed J))
    : Type 0 where
  pub none : last ≡ None
  pub hand : IfSome state.tally (λ next. InHand next state.places.items)
  pub fewer : size_of state.tally < size_of (Some counted)
  pub rounds : (label : List ℕ) (cuts : List Cut) (before : List (Committed J))
      → Rounds label cuts (Some counted) places refused before
      → Rounds label cuts state.tally state.places.items state.refused.items (before ++ clashes)

-- the commit of the tally is decided
pub record EndsBy {J : Type 0} (done : Done J) (counted : Counted) (refused : List Refusal)
    (clashes : List (Committed J)) (last : Option (Committed J)) : Type 0 where
  pub none : clashes ≡ []
  pub handed : handed_in last ≡ Some counted
  pub answer : done.answer ≡ answer_in last
  pub decided : AnswerDecided done.answer
  pub refused_are : done.refused.items ≡ refused

-- memory was wanting for the commit of the tally
pub record LacksOnce {J : Type 0} (counted : Counted) (clashes : List (Committed J))
    (last : Committed J) : Type 0 where
  pub none : clashes ≡ []
  pub lacking : IsLacking last.answer
  pub handed : last.handed ≡ counted

abbrev pub RoundBy : {J E : Type 0} → Result (Round J) E → Counted → List ℕ → List Refusal
    → List (Committed J) → Option (Committed J) → Type 0
RoundBy (Ok (Again state)) counted places refused clashes last =
    GoesAgain state counted places refused clashes last
RoundBy (Ok (Ended done)) counted places refused clashes last =
    EndsBy done counted refused clashes last
RoundBy (Err fault) counted places refused clashes last =
    MatchOption last ⊤ (LacksOnce counted clashes)

-- what became of a tally, by its commit
pub record ComesOnce {J E : Type 0} (result : Result (Round J) E) (counted : Counted)
    (places : List ℕ) (refused : List Refusal) (notes notes_after : List (List Batch))
    (told told_after : Option Store) (drawing drawing_after : Drawing) : Type 0 where
  pub runs : Runs J notes notes_after told told_after drawing drawing_after
  pub comes : RoundBy result counted places refused runs.clashes runs.last

-- ---- where the store is known

-- the number of the stored game that has an id; where the store is closed, none is looked for
abbrev pub stored_by : Option (ℕ × ℕ) → List Game → Numbering
stored_by None games id = numbers_of games id
stored_by (Some fault) games id = None

-- the store is as it was
abbrev pub IsStill : Known → Option Store → Type 0
IsStill known told = told ≡ Some (store_of known)

-- the answer to the commit of the candidates that are kept; none where there is no candidate
abbrev pub IsAnswer : {J : Type 0} → List ℕ → Known → List Candidate
    → Option (Result (Receipt J) (CommitFault J)) → Option Store → Type 0
IsAnswer label known candidates None told = (candidates ≡ []) × IsStill known told
IsAnswer label known candidates (Some answer) told =
    (counted : Counted) × CountsUnder label candidates counted × Commits answer known counted told

-- The texts whose ids are stored are refused with their numbers, and the others are handed over as
-- one batch under the label.
pub record Settles {J : Type 0} (label : List ℕ) (known : Known) (cuts : List Cut)
    (refused : List Refusal) (answer : Option (Result (Receipt J) (CommitFault J)))
    (told : Option Store) : Type 0 where
  pub examinations : List Examination
  pub are_examinations : AllZip IsExaminationOf cuts examinations
  pub refused_are : refused ≡ lost (stored_by known.fault known.games) (verdicts examinations)
  pub answered : IsAnswer label known
      (kept (stored_by known.fault known.games) (verdicts examinations)) answer told

-- ---- want of memory

-- the batch is that of a group's candidates whose ids are not stored, under the label
pub record IsBatchOf (label : List ℕ) (known : Known) (group : List Cut) (batch : Batch)
    : Type 0 where
  pub examinations : List Examination
  pub are_examinations : AllZip IsExaminationOf group examinations
  pub batch_is : batch_of label
      (kept (stored_by known.fault known.games) (verdicts examinations)) ≡ Some batch

-- the journal is that of the store, or has the batch of the first of these groups more
abbrev pub MayStore : List ℕ → Known → List (List Cut) → List Batch → Type 0
MayStore label known [] journal = journal ≡ known.journal
MayStore label known (next ∷ groups) journal = (journal ≡ known.journal)
    ⊎ ((batch : Batch) × IsBatchOf label known next batch × (journal ≡ known.journal ++ batch ∷ []))

-- the store is as it was, or has the batch of the first of these groups more
pub record MayHaveMore (label : List ℕ) (known : Known) (groups : List (List Cut))
    (told : Option Store) : Type 0 where
  pub new : Store
  pub still : told ≡ Some new
  pub fault : new.fault ≡ known.fault
  pub journal : MayStore label known groups new.journal

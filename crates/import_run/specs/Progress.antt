-- Bridge: how far an import has come, where the store at its beginning is known.
use Rattle.std.specs.Prelude.{◌≡◌, ⊤, ℕ, List, [], ◌∷◌, ◌++◌, map, IsSome, Option, Some}
use Rattle.std.specs.List.{AllByRecursion}
use Rattle.explorer_model.specs.declared.archive.Batch.{Batch}
use Rattle.explorer_model.specs.declared.archive.Game.{Game}
use Rattle.explorer_model.specs.declared.fault.Refusal.{Refusal}
use Rattle.explorer_model.specs.Cuts.{Cut}
use Rattle.explorer_model.specs.Imports.{Accounted, Examination, candidates, numbers_of, verdicts, verdicts_behind}
use Rattle.ingest_desk.specs.Commits.{IsReceiptOf}
use Rattle.ingest_desk.specs.declared.receipt.Receipt.{Receipt}
use Rattle.import_run.specs.Committing.{Known, Store, store_of}

-- the games that are stored behind a group, and behind groups
abbrev pub and_games : List Game → List Examination → List Game
and_games stored group =
    stored ++ map (λ c. c.game) (candidates (verdicts_behind (numbers_of stored) group))

abbrev pub games_after : List Game → List (List Examination) → List Game
games_after stored [] = stored
games_after stored (group ∷ groups) = games_after (and_games stored group) groups

-- each receipt is that of its batch, one behind the other behind a journal, and its note has the
-- journal with the batch
abbrev pub AreReceiptsOf : {J : Type 0} → List Batch → List (Receipt J) → List Batch
    → Type 0
AreReceiptsOf journal [] [] = ⊤
AreReceiptsOf journal (receipt ∷ receipts) (batch ∷ batches) =
    IsReceiptOf receipt journal batch × (receipt.note ≡ journal ++ batch ∷ [])
    × AreReceiptsOf (journal ++ batch ∷ []) receipts batches
AreReceiptsOf journal [] (batch ∷ batches) = ⊥
AreReceiptsOf journal (receipt ∷ receipts) [] = ⊥

abbrev pub HasNoCandidate : List Examination → Type 0
HasNoCandidate group = candidates (verdicts group) ≡ []

-- The groups are accounted under the label by the batches behind the journal, one for each receipt,
-- and by the refusals. Where the store is closed, none of them has a candidate.
pub record Progress {J : Type 0} (label : List ℕ) (start : Known) (groups : List (List Cut))
    (receipts : List (Receipt J)) (refused : List Refusal) (told : Option Store)
    : Type 0 where
  pub batches : List Batch
  pub accounted : Accounted label start.games groups batches refused
  pub receipts_are : AreReceiptsOf start.journal receipts batches
  pub known : Known
  pub still : told ≡ Some (store_of known)
  pub journal : known.journal ≡ start.journal ++ batches
  pub games : known.games ≡ games_after start.games accounted.examinations
  pub fault : known.fault ≡ start.fault
  pub closed : IsSome start.fault → AllByRecursion HasNoCandidate accounted.examinations

-- Statement: what is known of an import whoever else stores beside it: by what the answers to its
-- commits tell.
use Rattle.std.specs.Prelude.{◌≡◌, ◌≢◌, ⊤, ℕ, true, List, [], ◌∷◌, Option, None, Some, Result, Ok, Err}
use Rattle.std.specs.List.{All, AllZip, Contains, flat_map}
use Rattle.explorer_model.specs.declared.archive.Batch.{Batch}
use Rattle.explorer_model.specs.declared.archive.Game.{Game}
use Rattle.explorer_model.specs.declared.fault.Refusal.{Refusal}
use Rattle.explorer_model.specs.Cuts.{Cut}
use Rattle.explorer_model.specs.Imports.{AccountedBeside, Candidate, Examination, IsExaminationOf, Numbering, batch_of, numbers_of, verdicts}
use Rattle.explorer_model.specs.Journal.{byte_count, game_count}
use Rattle.explorer_model.specs.Visits.{AreGamesOf}
use Rattle.tally_rows.specs.Tally.{Counted}
use Rattle.ingest_desk.specs.Causes.{has_no_room}
use Rattle.ingest_desk.specs.Clashes.{clashes_of}
use Rattle.ingest_desk.specs.Marked.{IsMark}
use Rattle.ingest_desk.specs.Reporting.{AreReceipts, FindsNoRoom, IsJudged, IsReceipt, RepeatsBy}
use Rattle.ingest_desk.specs.declared.fault.CommitFault.{CommitFault}
use Rattle.ingest_desk.specs.declared.fault.CommitFault.TheVariants as faults
use Rattle.ingest_desk.specs.declared.mark.MarkKind.TheVariants as kinds
use Rattle.ingest_desk.specs.declared.receipt.Receipt.{Receipt}
use Rattle.ingest_desk.specs.declared.report.End.{End}
use Rattle.ingest_desk.specs.declared.report.End.TheVariants as ends
use Rattle.import_run.specs.declared.open_import.Stopped.{Stopped}
use Rattle.import_run.specs.Labelling.{CountsUnder}
use Rattle.import_run.specs.Settling.{kept, lost}

-- ---- one commit

-- the journal has so many games and bytes; none of its games has an id of the tally, and with its
-- batch it would pass a limit
pub record IsFullFor (journal : List Batch) (games bytes : ℕ) (tally : Counted) : Type 0 where
  pub games_are : games ≡ game_count journal
  pub bytes_are : bytes ≡ byte_count journal
  pub stored : List Game
  pub are_stored : AreGamesOf journal stored
  pub new : clashes_of (numbers_of stored) tally.classes ≡ []
  pub passes : has_no_room journal tally.batch ≡ true

-- the receipt is that of the batch, at some place of its note's journal
pub record IsReceiptOfBatch {J : Type 0} (receipt : Receipt J) (batch : Batch) : Type 0 where
  pub place : ℕ
  pub is : IsReceipt receipt place batch

-- What an answer tells by itself: where the batch stands, by its mark which counts it has and that
-- this batch failed, or which journal has no room for it. What a clash tells is `IsClash`.
abbrev pub AnswersTo : {J : Type 0} → Result (Receipt J) (CommitFault J) → Counted → Type 0
AnswersTo (Ok receipt) tally = IsReceiptOfBatch receipt tally.batch
AnswersTo (Err (faults.Closed before after mark)) tally =
    IsMark kinds.Closed before after None mark
AnswersTo (Err (faults.DiskFault before after mark)) tally =
    IsMark kinds.DiskFault before after (Some tally.batch) mark
AnswersTo (Err (faults.Full games bytes note)) tally = IsFullFor note games bytes tally
AnswersTo (Err _) tally = ⊤

-- ---- one group

-- each number is that of a game with the id in one of the journals
abbrev pub AreNamed : List (List Batch) → Numbering → Type 0
AreNamed journals number = (id : List ℕ) (n : ℕ) → number id ≡ Some n
    → (journal : List Batch) × Contains journals journal
    × (games : List Game) × AreGamesOf journal games × (numbers_of games id ≡ Some n)

-- the answer to the commit of the candidates under the label; none where there is no candidate
abbrev pub AnswersFor : {J : Type 0} → List ℕ → List Candidate
    → Option (Result (Receipt J) (CommitFault J)) → Type 0
AnswersFor label candidates None = candidates ≡ []
AnswersFor label candidates (Some answer) =
    (counted : Counted) × CountsUnder label candidates counted × AnswersTo answer counted

-- The texts whose ids were found to be stored are refused with their numbers, and the others are
-- handed over as one batch under the label.
pub record SettlesBeside {J : Type 0} (label : List ℕ) (cuts : List Cut) (refused : List Refusal)
    (answer : Option (Result (Receipt J) (CommitFault J))) (clashes : List (List Batch))
    : Type 0 where
  pub examinations : List Examination
  pub are_examinations : AllZip IsExaminationOf cuts examinations
  pub number : Numbering
  pub named : AreNamed clashes number
  pub refused_are : refused ≡ lost number (verdicts examinations)
  pub answered : AnswersFor label (kept number (verdicts examinations)) answer

-- ---- an import

-- how many batches the journal of the last receipt has, or so many where there is no receipt
abbrev pub last_batches : {J : Type 0} → ℕ → List (Receipt J) → ℕ
last_batches none [] = none
last_batches none (receipt ∷ receipts) = last_batches receipt.batches receipts

-- each refused repeat is one of what stands in a journal of a clash
abbrev pub AreRepeats : List Cut → List (List Batch) → List Refusal → Type 0
AreRepeats cuts clashes refused =
    All (λ refusal. RepeatsBy cuts clashes refusal.place refusal.why) refused

-- the groups are accounted under the label by the batches of the receipts and by the refusals
pub record ProgressBeside {J : Type 0} (label : List ℕ) (groups : List (List Cut))
    (receipts : List (Receipt J)) (refused : List Refusal) (clashes : List (List Batch))
    : Type 0 where
  pub batches : List Batch
  pub are_receipts : AreReceipts 0 receipts batches
  pub accounted : AccountedBeside label groups batches refused
  pub repeats : AreRepeats (flat_map (λ group. group) groups) clashes refused

-- the mark is that of the end, where what is left is the batch that failed, or the note has no room
-- for what is left
abbrev pub EndsBeside : {J : Type 0} → List ℕ → End J → List Candidate → Type 0
EndsBeside label (ends.DiskFault before after mark) left =
    IsMark kinds.DiskFault before after (batch_of label left) mark
EndsBeside label (ends.Closed before after mark) left = IsMark kinds.Closed before after None mark
EndsBeside label (ends.Full games bytes note) left = FindsNoRoom note games bytes left
EndsBeside label _ left = ⊥

-- a commit of what was left of a group ended the import
pub record StopsBeside {J : Type 0} (label : List ℕ) (group : List Cut)
    (clashes : List (List Batch)) (stopped : Stopped J) : Type 0 where
  pub left : List Candidate
  pub judged : IsJudged group left stopped.refused.items
  pub some_left : left ≢ []
  pub ends : EndsBeside label stopped.end left
  pub repeats : AreRepeats group clashes stopped.refused.items

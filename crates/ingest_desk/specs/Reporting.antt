-- Statement: what an import reports of a stream whose groups others may store beside.
use Rattle.std.specs.Prelude.{◌≡◌, ◌≢◌, ⊤, ℕ, ◌+◌, ◌≤◌, List, [], ◌∷◌, ◌++◌, length, take, count_by, sum_by, slice_get, None, Some}
use Rattle.std.specs.List.{All, AllZip, Contains}
use Rattle.explorer_model.specs.declared.archive.Batch.{Batch}
use Rattle.explorer_model.specs.declared.archive.Game.{Game}
use Rattle.explorer_model.specs.declared.fault.Refusal.{Refusal}
use Rattle.explorer_model.specs.declared.fault.Why.{Why}
use Rattle.explorer_model.specs.declared.fault.Why.TheVariants.{Repeated, TooLong}
use Rattle.explorer_model.specs.Cuts.{Cut, Text, cuts}
use Rattle.explorer_model.specs.Cuts as pieces
use Rattle.explorer_model.specs.Imports.{AccountedBeside, Candidate, Examination, IsExaminationOf, Numbering, batch_of, candidates, group_limit, groups, is_text, numbers_of, refusals, verdicts_behind}
use Rattle.explorer_model.specs.Journal.{AreWithin, byte_count, game_count}
use Rattle.explorer_model.specs.Visits.{AreGamesOf, IsTextOf, texts_of}
use Rattle.ingest_desk.specs.Marked.{IsMark}
use Rattle.ingest_desk.specs.declared.mark.MarkKind.TheVariants as kinds
use Rattle.ingest_desk.specs.declared.receipt.Receipt.{Receipt}
use Rattle.ingest_desk.specs.declared.report.End.{End}
use Rattle.ingest_desk.specs.declared.report.End.TheVariants as ends
use Rattle.ingest_desk.specs.declared.report.Report.{Report}

-- ---- receipts

-- the receipt is that of the batch, which stands at this place of its note's journal, from 0
pub record IsReceipt {J : Type 0} (receipt : Receipt J) (place : ℕ) (batch : Batch) : Type 0 where
  pub batches : receipt.batches ≡ place + 1
  pub stands : slice_get receipt.note place ≡ Some batch
  pub games : receipt.games ≡ length batch.texts
  pub first : receipt.first ≡ game_count (take place receipt.note)

-- the receipts are those of the batches, one each, and their places ascend, none before this one
abbrev pub AreReceipts : {J : Type 0} → ℕ → List (Receipt J) → List Batch → Type 0
AreReceipts least [] [] = ⊤
AreReceipts least (receipt ∷ receipts) (batch ∷ batches) =
    (place : ℕ) × (least ≤ place) × IsReceipt receipt place batch
    × AreReceipts (place + 1) receipts batches
AreReceipts least [] (batch ∷ batches) = ⊥
AreReceipts least (receipt ∷ receipts) [] = ⊥

-- how many games the receipts have together
abbrev pub games_of : {J : Type 0} → List (Receipt J) → ℕ
games_of receipts = sum_by (λ receipt. receipt.games) receipts

-- ---- repeats

-- the text that stands at the place of a stream has the id of the journal's game of the number
pub record RepeatsGame (cuts : List Cut) (place : ℕ) (journal : List Batch) (number : ℕ)
    : Type 0 where
  pub text : List ℕ
  pub stands : Contains cuts (Text (record { place = place; bytes = text }))
  pub game : Game
  pub is_game : IsTextOf text game
  pub earlier_text : List ℕ
  pub stored : slice_get (texts_of journal) number ≡ Some earlier_text
  pub earlier : Game
  pub is_earlier : IsTextOf earlier_text earlier
  pub same_id : game.classes.id.bytes ≡ earlier.classes.id.bytes

-- a text that is refused so is a repeat of what stands in one of the journals
abbrev pub RepeatsBy : List Cut → List (List Batch) → ℕ → Why → Type 0
RepeatsBy cuts journals place (Repeated number) =
    (journal : List Batch) × Contains journals journal × RepeatsGame cuts place journal number
RepeatsBy cuts journals place _ = ⊤

-- ---- how far an import came

-- the refusal of a text that is too long
abbrev pub IsTooLong : Cut → Refusal → Type 0
IsTooLong (pieces.TooLong place length) refusal =
    refusal ≡ record { place = place; why = TooLong length }
IsTooLong _ refusal = ⊥

-- What an import that ends early has left unread of a group: behind the last text that the group may
-- have, texts of the stream that are too long. Their refusals are not listed.
pub record LeftUnread (group : List Cut) (unread : List Refusal) : Type 0 where
  pub read : List Cut
  pub behind : List Cut
  pub group_is : group ≡ read ++ behind
  pub whole : behind ≢ [] → count_by is_text read ≡ group_limit
  pub too_long : AllZip IsTooLong behind unread

-- what is left unread of the last of some groups
abbrev pub LeftUnreadIn : List (List Cut) → List Refusal → Type 0
LeftUnreadIn [] unread = unread ≡ []
LeftUnreadIn (group ∷ []) unread = LeftUnread group unread
LeftUnreadIn (group ∷ next ∷ rest) unread = LeftUnreadIn (next ∷ rest) unread

-- the groups before one of them are accounted under the label by the batches and the refusals
pub record AccountsUpTo (label : List ℕ) (finished : ℕ) (groups : List (List Cut))
    (batches : List Batch) (refused : List Refusal) : Type 0 where
  pub within : finished ≤ length groups
  pub accounted : AccountedBeside label (take finished groups) batches refused

-- a group as it is judged behind some numbering of stored ids
pub record IsJudged (group : List Cut) (left : List Candidate) (refused : List Refusal)
    : Type 0 where
  pub examinations : List Examination
  pub are_examinations : AllZip IsExaminationOf group examinations
  pub number : Numbering
  pub left_are : left ≡ candidates (verdicts_behind number examinations)
  pub refused_are : refused ≡ refusals (verdicts_behind number examinations)

-- An import broke off at a group of the stream, some of whose texts are left to be stored: the
-- groups before it are accounted, and its refusals are listed behind theirs, as far as it was read.
pub record BreaksAt (label : List ℕ) (groups : List (List Cut)) (batches : List Batch)
    (refused : List Refusal) (left : List Candidate) : Type 0 where
  pub finished : ℕ
  pub before : List Refusal
  pub accounts : AccountsUpTo label finished groups batches before
  pub group : List Cut
  pub in_hand : slice_get groups finished ≡ Some group
  pub hand : List Refusal
  pub judged : IsJudged group left hand
  pub some_left : left ≢ []
  pub unread : List Refusal
  pub left_unread : LeftUnread group unread
  pub refused_are : refused ++ unread ≡ before ++ hand

-- the journal has so many games and bytes; none of its games has an id of the candidates, and with
-- these it would pass a limit
pub record FindsNoRoom (journal : List Batch) (games bytes : ℕ) (left : List Candidate)
    : Type 0 where
  pub games_are : games ≡ game_count journal
  pub bytes_are : bytes ≡ byte_count journal
  pub stored : List Game
  pub are_stored : AreGamesOf journal stored
  pub new : All (λ candidate. numbers_of stored candidate.game.classes.id.bytes ≡ None) left
  pub passes : ¬ AreWithin (games + length left)
      (bytes + sum_by (λ candidate. length candidate.text) left)

-- an import under the label that ended so has these batches stored and these texts refused
abbrev pub AccountsTo : {J : Type 0} → List ℕ → End J → List (List Cut) → List Batch → List Refusal
    → Type 0
AccountsTo label ends.Whole groups batches refused = AccountedBeside label groups batches refused
AccountsTo label (ends.DiskFault before after mark) groups batches refused =
    (left : List Candidate) × BreaksAt label groups batches refused left
    × IsMark kinds.DiskFault before after (batch_of label left) mark
AccountsTo label (ends.Closed before after mark) groups batches refused =
    (left : List Candidate) × BreaksAt label groups batches refused left
    × IsMark kinds.Closed before after None mark
AccountsTo label (ends.Full games bytes note) groups batches refused =
    (left : List Candidate) × BreaksAt label groups batches refused left
    × FindsNoRoom note games bytes left
AccountsTo label _ groups batches refused =
    (finished : ℕ) × ((unread : List Refusal) × LeftUnreadIn (take finished groups) unread
    × AccountsUpTo label finished groups batches (refused ++ unread))

-- ---- reports

-- What an import of a stream under a label reports, by the cuts of the stream: its receipts are those
-- of the batches that it stored.
pub record Reports {J : Type 0} (label : List ℕ) (cuts : List Cut) (report : Report J)
    : Type 0 where
  pub batches : List Batch
  pub are_receipts : AreReceipts 0 report.receipts.items batches
  pub accounts : AccountsTo label report.end (groups cuts) batches report.refused.items
  pub repeats : All (λ refusal. RepeatsBy cuts report.clashes.items refusal.place refusal.why)
      report.refused.items

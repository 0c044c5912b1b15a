-- Statement: what is replied to the import of a body.
use Rattle.std.specs.Prelude.{◌≡◌, ◌⊎◌, ⊤, ℕ, ◌≤◌, List, ◌++◌, length, take, slice_get, Some}
use Rattle.std.specs.List.{All, AllZip}
use Rattle.explorer_model.specs.declared.archive.Batch.{Batch}
use Rattle.explorer_model.specs.declared.fault.Refusal.{Refusal}
use Rattle.explorer_model.specs.declared.fault.Why.{Why}
use Rattle.explorer_model.specs.declared.fault.Why.TheVariants.{Repeated}
use Rattle.explorer_model.specs.declared.wire.Reply.{Reply}
use Rattle.explorer_model.specs.declared.wire.Reply.TheVariants as replies
use Rattle.explorer_model.specs.Cuts.{Cut, cuts}
use Rattle.explorer_model.specs.Labels.{no_label}
use Rattle.explorer_model.specs.Imports.{AccountedBeside, Candidate, groups}
use Rattle.explorer_model.specs.Journal.{game_count}
use Rattle.explorer_model.specs.Replies.{stored_body}
use Rattle.explorer_model.specs.Timeline.{IsPrefix}
use Rattle.published_index.specs.Places.{Drawing, with_places}
use Rattle.ingest_desk.specs.Lives.{StandFrom}
use Rattle.ingest_desk.specs.declared.report.ImportEnding.{ImportEnding}
use Rattle.ingest_desk.specs.declared.report.ImportEnding.TheVariants as endings
use Rattle.ingest_desk.specs.Reporting.{AccountsUpTo, BreaksAt, FindsNoRoom, LeftUnreadIn, RepeatsGame}

-- ---- what is stored

-- a text that is refused so is a repeat of a game of the journal
abbrev pub IsRepeatOf : List Cut → List Batch → ℕ → Why → Type 0
IsRepeatOf cuts journal place (Repeated number) = RepeatsGame cuts place journal number
IsRepeatOf cuts journal place _ = ⊤

-- Some front of the journal has so many games and bytes, and with them these candidates would pass a
-- limit. No id of theirs stands in the front.
pub record HasNoRoom (journal : List Batch) (games bytes : ℕ) (left : List Candidate)
    : Type 0 where
  pub front : List Batch
  pub is_front : IsPrefix front journal
  pub no_room : FindsNoRoom front games bytes left

-- An import that ended so has accounted the groups by these batches and refusals: all of them, or
-- those before the one at which it broke off. Where that found no room, the journal has none for it.
abbrev pub AccountsBy : ImportEnding → List Batch → List (List Cut) → List Batch → List Refusal
    → Type 0
AccountsBy endings.Whole journal groups batches refused =
    AccountedBeside no_label groups batches refused
AccountsBy (endings.DiskFault before after) journal groups batches refused =
    (left : List Candidate) × BreaksAt no_label groups batches refused left
AccountsBy (endings.Closed before after) journal groups batches refused =
    (left : List Candidate) × BreaksAt no_label groups batches refused left
AccountsBy (endings.Full games bytes) journal groups batches refused =
    (left : List Candidate) × BreaksAt no_label groups batches refused left
    × HasNoRoom journal games bytes left
AccountsBy endings.OutOfMemory journal groups batches refused =
    (finished : ℕ) × ((unread : List Refusal) × LeftUnreadIn (take finished groups) unread
    × AccountsUpTo no_label finished groups batches (refused ++ unread))
AccountsBy _ journal groups batches refused = ⊥

-- An import of the body ended so. The batches that it stored have so many games and stand in the
-- journal; they and the refusals account what was imported of the body, and what is refused as a
-- repeat repeats a game of the journal.
pub record HasImported (ending : ImportEnding) (journal : List Batch) (body : List ℕ) (games : ℕ)
    (refused : List Refusal) : Type 0 where
  pub batches : List Batch
  pub stand : StandFrom 0 journal batches
  pub count : games ≡ game_count batches
  pub accounted : AccountsBy ending journal (groups (cuts body)) batches refused
  pub repeats : All (λ refusal. IsRepeatOf (cuts body) journal refusal.place refusal.why) refused

-- The drawer of an import drew the places at which its batches stand in the journal, in their order, and
-- behind them so many more at the most, of batches of which its receipts do not tell.
pub record DrewPlacesOf (most : ℕ) (journal batches : List Batch) (before after : Drawing)
    : Type 0 where
  pub places : List ℕ
  pub stand : AllZip (λ place batch. slice_get journal place ≡ Some batch) places batches
  pub untold : List ℕ
  pub few : length untold ≤ most
  pub drawn : after ≡ with_places (places ++ untold) before

-- the whole body is accounted
abbrev pub HasStoredBody : List Batch → List ℕ → ℕ → List Refusal → Type 0
HasStoredBody journal body games refused = HasImported endings.Whole journal body games refused

-- ---- replies

-- The reply to an import that ended so and stored so many games, with these refusals, where the
-- journal has so many batches. There may be no memory to tell a whole import.
abbrev pub TellsEnding : ImportEnding → ℕ → ℕ → List Refusal → Reply → Type 0
TellsEnding endings.Whole batches stored refused reply =
    (reply ≡ replies.Stored batches (stored_body batches stored refused))
    ⊎ (reply ≡ replies.NoMemory)
TellsEnding (endings.DiskFault before after) batches stored refused reply =
    reply ≡ replies.DiskFault stored
TellsEnding (endings.Closed before after) batches stored refused reply =
    reply ≡ replies.Closed stored
TellsEnding (endings.Full games bytes) batches stored refused reply =
    reply ≡ replies.Full games bytes stored
TellsEnding endings.OutOfMemory batches stored refused reply = reply ≡ replies.NoMemory
TellsEnding _ batches stored refused reply = ⊥

-- where the reply is that a body is stored, its batches stand behind so many of the journal
abbrev pub AreNew : Reply → ℕ → List Batch → List Batch → Type 0
AreNew (replies.Stored number body) seen journal batches = StandFrom seen journal batches
AreNew _ seen journal batches = ⊤

-- The reply to an import of the body that ended so and stored so many games, whatever the end. The
-- journal is what the pass has seen when the reply is written, and has all that the import told. So
-- many of its batches were seen when the request came.
pub record RepliesTo (ending : ImportEnding) (seen : ℕ) (journal : List Batch) (body : List ℕ)
    (stored : ℕ) (reply : Reply) : Type 0 where
  pub refused : List Refusal
  pub imported : HasImported ending journal body stored refused
  pub tells : TellsEnding ending (length journal) stored refused reply
  pub are_new : AreNew reply seen journal imported.batches

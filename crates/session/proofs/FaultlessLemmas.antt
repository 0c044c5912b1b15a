-- What is replied where nothing fails.
use Rattle.std.proofs.Common.{◌≡◌, inl, inr, ℕ, List, Option, Result, Ok, Err, length, refl}
use Rattle.explorer_model.specs.declared.archive.Batch.{Batch}
use Rattle.explorer_model.specs.declared.fault.Refusal.{Refusal}
use Rattle.explorer_model.specs.declared.player.BadPlayerParameter.{BadPlayerParameter}
use Rattle.explorer_model.specs.declared.player.PlayerQuery.{PlayerQuery}
use Rattle.explorer_model.specs.declared.query.BadParameter.{BadParameter}
use Rattle.explorer_model.specs.declared.query.Query.{Query}
use Rattle.explorer_model.specs.declared.wire.Reply.{Reply}
use Rattle.explorer_model.specs.declared.wire.Reply.TheVariants as replies
use Rattle.explorer_model.specs.Openings.{NamedPosition}
use Rattle.explorer_model.specs.Players.{PlayerQueryReads, bad_player}
use Rattle.explorer_model.specs.Query.{QueryReads}
use Rattle.ingest_desk.specs.Importers.{CountsRose}
use Rattle.ingest_desk.specs.declared.report.ImportCall.{ImportCall}
use Rattle.ingest_desk.specs.declared.report.ImportEnding.{ImportEnding}
use Rattle.ingest_desk.specs.declared.report.ImportEnding.TheVariants as endings
use Rattle.session.specs.Exchanges.{GrantsImport, Moment}
use Rattle.session.specs.Imports.{HasStoredBody, RepliesTo, TellsEnding}
use Rattle.session.specs.Laws.{IsAnswered, IsPlayerAnswered, IsStored, NoneRose}
use Rattle.session.specs.Replies.{AnswersPlayerQuery, AnswersQuery, Readings}

not-both : {A B : Type 0} (value : A) (fault : B) → ◌≡◌ {A = Result A B} (Ok value) (Err fault) → ⊥
not-both value fault is = cc

pub answered : ((text : List ℕ) (r s : Result Query BadParameter) → QueryReads text r → QueryReads text s → r ≡ s)
    → (book : List NamedPosition) (text : List ℕ) (query : Query) (journal : List Batch) (before after : Readings) (reply : Reply)
    → QueryReads text (Ok query) → AnswersQuery book text journal before after reply → IsAnswered book text journal before after reply
answered once book text query journal before after (replies.Found batches body) reads answers = answers.0
answered once book text query journal before after (replies.BadParameter name) reads answers =
    let fault : BadParameter = record { name = name } in
    absurd (not-both query fault (once text (Ok query) (Err fault) reads answers.0))
answered once book text query journal before after replies.NoMemory reads answers = tt
answered once book text query journal before after replies.Unread reads answers = answers.1
answered once book text query journal before after _ reads answers = absurd answers.0

pub player-answered : ((text : List ℕ) (r s : Result PlayerQuery BadPlayerParameter) → PlayerQueryReads text r → PlayerQueryReads text s → r ≡ s)
    → (book : List NamedPosition) (text : List ℕ) (query : PlayerQuery) (journal : List Batch) (before after : Readings) (reply : Reply)
    → PlayerQueryReads text (Ok query) → AnswersPlayerQuery book text journal before after reply
    → IsPlayerAnswered book text journal before after reply
player-answered once book text query journal before after (replies.Found batches body) reads answers = answers.0
player-answered once book text query journal before after (replies.BadPlayerParameter name) reads answers =
    absurd (not-both query (bad_player name) (once text (Ok query) (Err (bad_player name)) reads answers.0))
player-answered once book text query journal before after replies.NoMemory reads answers = tt
player-answered once book text query journal before after replies.Unread reads answers = answers.1
player-answered once book text query journal before after _ reads answers = absurd answers.0

told-whole : (body : List ℕ) (journal : List Batch) (games : ℕ) (refused : List Refusal) (reply : Reply)
    → HasStoredBody journal body games refused → TellsEnding endings.Whole (length journal) games refused reply
    → IsStored body journal reply
told-whole body journal games refused reply has (inl told) =
    inl (record { stored = games; refused = refused; has_body = has; reply_is = told })
told-whole body journal games refused reply has (inr lacks) = inr lacks

-- the reply to an import by its end: of those without a count only two have a reply
stored-by : (ending : ImportEnding) (seen : ℕ) (body : List ℕ) (journal : List Batch) (before after : Moment) (games : ℕ) (reply : Reply)
    → CountsRose ending before.counts after.counts → RepliesTo ending seen journal body games reply
    → NoneRose before.counts after.counts → IsStored body journal reply
stored-by endings.Whole seen body journal before after games reply rose to none =
    told-whole body journal games to.refused reply to.imported to.tells
stored-by endings.OutOfMemory seen body journal before after games reply rose to none = inr to.tells
stored-by (endings.DiskFault x y) seen body journal before after games reply rose to none = absurd (none.disk_faults (rose.disk_fault refl))
stored-by (endings.Closed x y) seen body journal before after games reply rose to none = absurd (none.closed (rose.closed.rises refl))
stored-by (endings.Full x y) seen body journal before after games reply rose to none = absurd (none.full (rose.full.rises refl))
stored-by (endings.ReadFault x y) seen body journal before after games reply rose to none = absurd to.tells
stored-by (endings.TooMuch x) seen body journal before after games reply rose to none = absurd to.tells

pub import-stored : (body : List ℕ) (journal : List Batch) (before after : Moment) (call : Option ImportCall) (reply : Reply)
    → GrantsImport body journal before after call reply → NoneRose before.counts after.counts → IsStored body journal reply
import-stored body journal before after call reply grants none =
    stored-by grants.made.ending before.seen body journal before after grants.made.games reply grants.counts grants.replies none

-- Laws: what a reader of the replies may know.
use Rattle.std.specs.Prelude.{◌≡◌, ◌⊎◌, ◌<◌, ◌≤◌, ⊤, ℕ, ◌+◌, List, [], ◌∷◌, ◌++◌, length, take, filter_map, Option, Some, None}
use Rattle.std.specs.List.{Contains}
use Rattle.explorer_model.specs.declared.archive.Batch.{Batch}
use Rattle.explorer_model.specs.declared.wire.Asked.{Asked}
use Rattle.explorer_model.specs.declared.wire.Asked.TheVariants.{NoMemory, Done, Cut}
use Rattle.explorer_model.specs.declared.wire.Reply.{Reply}
use Rattle.explorer_model.specs.declared.wire.Reply.TheVariants as replies
use Rattle.explorer_model.specs.declared.fault.Refusal.{Refusal}
use Rattle.explorer_model.specs.Openings.{NamedPosition}
use Rattle.explorer_model.specs.Players.{IsPlayerAnswerOf, IsPlayerFoundIn}
use Rattle.explorer_model.specs.Replies.{IsNamedAnswerOf, IsNamedFoundIn, stored_body}
use Rattle.explorer_model.specs.Timeline.{IsPrefix}
use Rattle.explorer_model.specs.Wire.{IsAsked}
use Rattle.outside.specs.Stream.{Rises}
use Rattle.ingest_desk.specs.Importers.{ImportCounts}
use Rattle.session.specs.declared.serving.Ended.{Ended}
use Rattle.session.specs.declared.serving.Ended.TheVariants as ends
use Rattle.session.specs.Exchanges.{Exchange, GrantsImport, Moment, asked_in}
use Rattle.session.specs.Imports.{HasStoredBody}
use Rattle.session.specs.Replies.{Offer, Readings, Route, Answer, Import, PlayerAnswer, route_of}

-- the number of batches that a reply names
abbrev pub number_of : Reply → Option ℕ
number_of (replies.Found batches body) = Some batches
number_of (replies.Stored batches body) = Some batches
number_of _ = None

abbrev pub numbers : List Exchange → List ℕ
numbers exchanges = filter_map (λ x. number_of x.reply) exchanges

-- no number is below the one before, and none below the least
abbrev pub AscendFrom : ℕ → List ℕ → Type 0
AscendFrom least [] = ⊤
AscendFrom least (n ∷ ns) = (least ≤ n) × AscendFrom n ns

-- an answer is over the first batches of the journal, as many as its number says, and named by the
-- book
abbrev pub IsOverFront : List NamedPosition → List Batch → Route → Reply → Type 0
IsOverFront book journal (Answer text) (replies.Found batches body) =
    (batches ≤ length journal) × IsNamedFoundIn book text (take batches journal) batches body
IsOverFront book journal (PlayerAnswer text) (replies.Found batches body) =
    (batches ≤ length journal) × IsPlayerFoundIn book text (take batches journal) batches body
IsOverFront book journal _ _ = ⊤

-- one reply says that the journal could not be read, or none
abbrev pub unread_one : Reply → ℕ
unread_one replies.Unread = 1
unread_one _ = 0

-- how many replies say it
abbrev pub unread_in : List Exchange → ℕ
unread_in [] = 0
unread_in (x ∷ xs) = unread_one x.reply + unread_in xs

-- the reply tells an answer, or what is malformed
abbrev pub IsTold : Reply → Type 0
IsTold (replies.Found batches body) = ⊤
IsTold (replies.BadParameter name) = ⊤
IsTold (replies.BadPlayerParameter name) = ⊤
IsTold _ = ⊥

-- ---- what is asked and not answered

-- there was no memory for the last of them
abbrev pub LastLacksMemory : List Exchange → Type 0
LastLacksMemory [] = ⊥
LastLacksMemory (x ∷ []) = x.asked ≡ NoMemory
LastLacksMemory (x ∷ y ∷ xs) = LastLacksMemory (y ∷ xs)

-- Of all that is asked in the bytes taken nothing is left out, unless there was no memory for the
-- last: what follows is how the bytes end. Behind a fault of writing more may be asked.
abbrev pub IsAllAnswered : Ended → List ℕ → List Exchange → Type 0
IsAllAnswered ends.Done taken exchanges =
    LastLacksMemory exchanges ⊎ IsAsked taken (asked_in exchanges ++ Done ∷ [])
IsAllAnswered ends.Cut taken exchanges = IsAsked taken (asked_in exchanges ++ Cut ∷ [])
IsAllAnswered ends.ReadFault taken exchanges =
    IsAsked taken (asked_in exchanges ++ Done ∷ []) ⊎ IsAsked taken (asked_in exchanges ++ Cut ∷ [])
IsAllAnswered ends.WriteFault taken exchanges =
    LastLacksMemory exchanges
    ⊎ ((all : List Asked) → IsAsked taken all → IsPrefix (asked_in exchanges) all)

-- ---- what is drawn

-- The place was drawn for the exchange, which is an import: one of its batches stands there, or one of
-- which it has no receipt. The journal is what the pass has seen in the end.
pub record IsDrawnFor (offer : Offer) (place : ℕ) (journal : List Batch) (x : Exchange)
    : Type 0 where
  pub body : List ℕ
  pub asked : route_of offer x.asked ≡ Import body
  pub before : Moment
  pub after : Moment
  pub grants : GrantsImport body (take after.seen journal) before after x.call x.reply
  pub among : Contains (grants.drawn.places ++ grants.drawn.untold) place

-- it was drawn for one of the exchanges
abbrev pub IsDrawnAmong : Offer → ℕ → List Batch → List Exchange → Type 0
IsDrawnAmong offer place journal exchanges =
    (x : Exchange) × Contains exchanges x × IsDrawnFor offer place journal x

-- ---- what is replied where nothing fails

-- What is found is an answer, or memory was wanting, or a reading was not given, which the pass
-- counts.
abbrev pub IsAnsweredBy : (Reply → Type 0) → Readings → Readings → Reply → Type 0
IsAnsweredBy IsAnswer before after (replies.Found batches body) =
    IsAnswer (replies.Found batches body)
IsAnsweredBy IsAnswer before after replies.NoMemory = ⊤
IsAnsweredBy IsAnswer before after replies.Unread = before.unread < after.unread
IsAnsweredBy IsAnswer before after _ = ⊥

-- so it is with a query
abbrev pub IsAnswered : List NamedPosition → List ℕ → List Batch → Readings → Readings → Reply
    → Type 0
IsAnswered book text journal before after reply =
    IsAnsweredBy (IsNamedAnswerOf book text journal) before after reply

-- and with a query for a player's games
abbrev pub IsPlayerAnswered : List NamedPosition → List ℕ → List Batch → Readings → Readings
    → Reply → Type 0
IsPlayerAnswered book text journal before after reply =
    IsAnsweredBy (IsPlayerAnswerOf book text journal) before after reply

-- no count of the importer rose
pub record NoneRose (before after : ImportCounts) : Type 0 where
  pub disk_faults : ¬ Rises before.disk_faults after.disk_faults
  pub closed : ¬ Rises before.closed after.closed
  pub full : ¬ Rises before.full after.full

-- The reply tells that the body is stored, with so many games and these refusals: each candidate of
-- the body is stored or is listed as a repeat.
pub record TellsStored (body : List ℕ) (journal : List Batch) (reply : Reply) : Type 0 where
  pub stored : ℕ
  pub refused : List Refusal
  pub has_body : HasStoredBody journal body stored refused
  pub reply_is : reply ≡ replies.Stored (length journal)
      (stored_body (length journal) stored refused)

-- the body is stored, or memory was wanting
abbrev pub IsStored : List ℕ → List Batch → Reply → Type 0
IsStored body journal reply = TellsStored body journal reply ⊎ (reply ≡ replies.NoMemory)

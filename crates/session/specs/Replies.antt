-- Statement: what is replied to what a connection asks.
use Rattle.std.specs.Prelude.{◌≡◌, ◌⊎◌, ◌+◌, ◌<◌, ℕ, Bool, true, false, List, []}
use Rattle.explorer_model.specs.declared.archive.Batch.{Batch}
use Rattle.explorer_model.specs.declared.wire.Asked.{Asked}
use Rattle.explorer_model.specs.declared.wire.Asked.TheVariants as asks
use Rattle.explorer_model.specs.declared.wire.Method.{Method}
use Rattle.explorer_model.specs.declared.wire.Method.TheVariants as methods
use Rattle.explorer_model.specs.declared.wire.Path.{Path}
use Rattle.explorer_model.specs.declared.wire.Path.TheVariants as paths
use Rattle.explorer_model.specs.declared.wire.Reply.{Reply}
use Rattle.explorer_model.specs.declared.wire.Reply.TheVariants as replies
use Rattle.explorer_model.specs.declared.wire.RequestFault.{RequestFault}
use Rattle.explorer_model.specs.declared.wire.RequestFault.TheVariants as faults
use Rattle.explorer_model.specs.Openings.{NamedPosition}
use Rattle.explorer_model.specs.Players.{IsPlayerAnswerOf}
use Rattle.explorer_model.specs.Replies.{IsNamedAnswerOf}
use Rattle.published_index.specs.States.{Watching}

-- ---- what is asked for

-- what is served beside answers over all games and imports
pub record Offer : Type 0 where
  -- the openings by which answers are named
  pub book : List NamedPosition
  -- answers over a player's games
  pub players : Bool

-- answers are named by the book, and no player's games are offered
abbrev pub by_book : List NamedPosition → Offer
by_book book = record { book = book; players = false }

-- answers are named by the book, and a player's games are offered
abbrev pub with_players : List NamedPosition → Offer
with_players book = record { book = book; players = true }

-- no opening is named
abbrev pub no_offer : Offer
no_offer = by_book []

-- what a connection asks for
pub data Route : Type 0 where
  -- an answer to the query string
  Answer : List ℕ → Route
  -- an answer to the query string over a player's games
  PlayerAnswer : List ℕ → Route
  -- an import of the body
  Import : List ℕ → Route
  -- a reply that nothing else decides
  Fixed : Reply → Route
  -- no reply
  Silence : Route

-- where no player's games are offered, their path is none, whatever the method
abbrev pub player_route : Bool → Method → List ℕ → Route
player_route true methods.Get query = PlayerAnswer query
player_route true _ query = Fixed (replies.NotAllowed methods.Get)
player_route false _ query = Fixed replies.NotFound

-- paths take one method each
abbrev pub route_by : Offer → Path → Method → List ℕ → List ℕ → Route
route_by offer paths.Lichess methods.Get query body = Answer query
route_by offer paths.Lichess _ query body = Fixed (replies.NotAllowed methods.Get)
route_by offer paths.Player method query body = player_route offer.players method query
route_by offer paths.Import methods.Post query body = Import body
route_by offer paths.Import _ query body = Fixed (replies.NotAllowed methods.Post)
route_by offer paths.Other _ query body = Fixed replies.NotFound

abbrev pub refusal_reply : RequestFault → Reply
refusal_reply faults.BadRequest = replies.BadRequest
refusal_reply faults.TooLarge = replies.TooLarge
refusal_reply faults.HeadTooLarge = replies.HeadTooLarge

abbrev pub route_of : Offer → Asked → Route
route_of offer (asks.Wanted request) =
    route_by offer request.path request.method request.query request.body
route_of offer (asks.Refused fault) = Fixed (refusal_reply fault)
route_of offer asks.NoMemory = Fixed replies.NoMemory
route_of offer asks.Done = Silence
route_of offer asks.Cut = Silence
route_of offer asks.ReadFault = Silence

-- the connection is closed behind the reply
abbrev pub closes : Asked → Bool
closes (asks.Wanted request) = request.last
closes _ = true

-- ---- answers to queries

-- how often a pass has entered, and how many readings it was not given
pub record Readings : Type 0 where
  pub entered : ℕ
  pub unread : ℕ

abbrev pub readings_of : Watching → Readings
readings_of pass = record { entered = pass.entered; unread = pass.unread }

-- one entering more, and no reading that was not given
abbrev pub Enters : Readings → Readings → Type 0
Enters before after = after ≡ record before { entered = before.entered + 1 }

-- at most one entering more
abbrev pub MayEnter : Readings → Readings → Type 0
MayEnter before after =
    (after.entered ≡ before.entered) ⊎ (after.entered ≡ before.entered + 1)

-- The reply tells an answer that is one, with one entering, or what is malformed, with none. Want of
-- memory is free, and a reading that was not given is counted.
abbrev pub AnswersBy : (Reply → Type 0) → Readings → Readings → Reply → Type 0
AnswersBy IsAnswer before after (replies.Found batches body) =
    IsAnswer (replies.Found batches body) × Enters before after
AnswersBy IsAnswer before after replies.NoMemory =
    MayEnter before after × (after.unread ≡ before.unread)
AnswersBy IsAnswer before after replies.Unread =
    (after.entered ≡ before.entered) × (before.unread < after.unread)
AnswersBy IsAnswer before after reply = IsAnswer reply × (after ≡ before)

-- The reply answers the query string over the journal that the pass has seen then, with the
-- openings that the book names for it, or names its first malformed parameter.
abbrev pub AnswersQuery : List NamedPosition → List ℕ → List Batch → Readings → Readings → Reply
    → Type 0
AnswersQuery book text journal before after reply =
    AnswersBy (IsNamedAnswerOf book text journal) before after reply

-- The same of a query for a player's games.
abbrev pub AnswersPlayerQuery : List NamedPosition → List ℕ → List Batch → Readings → Readings
    → Reply → Type 0
AnswersPlayerQuery book text journal before after reply =
    AnswersBy (IsPlayerAnswerOf book text journal) before after reply

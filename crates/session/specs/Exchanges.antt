-- Statement: exchanges of a connection, one after another: what is asked, and what is replied.
use Rattle.std.specs.Prelude.{◌≡◌, ◌≤◌, ℕ, List, [], ◌∷◌, length, take, map, filter_map, Option, Some, None}
use Rattle.std.specs.List.{flat_map}
use Rattle.explorer_model.specs.declared.archive.Batch.{Batch}
use Rattle.explorer_model.specs.declared.wire.Asked.{Asked}
use Rattle.explorer_model.specs.declared.wire.Reply.{Reply}
use Rattle.explorer_model.specs.Players.{IsPlayerAnswerOf}
use Rattle.explorer_model.specs.Replies.{IsNamedAnswerOf, reply_text}
use Rattle.published_index.specs.Places.{Drawing}
use Rattle.published_index.specs.States.{Watching}
use Rattle.ingest_desk.specs.Drawn.{most_untold}
use Rattle.ingest_desk.specs.declared.report.ImportCall.{ImportCall}
use Rattle.ingest_desk.specs.Importers.{CountsRose, ImportCounts, ImporterState}
use Rattle.session.specs.Imports.{DrewPlacesOf, RepliesTo}
use Rattle.session.specs.Replies.{AnswersBy, Offer, Readings, Route, Answer, PlayerAnswer, Import, Fixed, Silence, closes, readings_of, route_of}

-- what stays from one connection to the next: the pass, and the importer
pub record Backend : Type 0 where
  pub pass : Watching
  pub importer : ImporterState

abbrev pub backend : Watching → ImporterState → Backend
backend pass importer = record { pass = pass; importer = importer }

-- How many batches the pass has seen, its readings, what the importer counts, and what its drawer drew.
pub record Moment : Type 0 where
  pub seen : ℕ
  pub readings : Readings
  pub counts : ImportCounts
  pub drawing : Drawing

abbrev pub moment_of : Backend → Moment
moment_of back = record {
  seen = length back.pass.seen;
  readings = readings_of back.pass;
  counts = back.importer.counts;
  drawing = back.importer.drawing;
}

-- what is asked, what is replied, and the call of the importer that was made for it
pub record Exchange : Type 0 where
  pub asked : Asked
  pub reply : Reply
  pub call : Option ImportCall

-- ---- one exchange

-- the reply is an answer, or says why there is none, and nothing is imported
pub record GrantsAnswer (IsAnswer : Reply → Type 0) (before after : Moment)
    (call : Option ImportCall) (reply : Reply) : Type 0 where
  pub answers : AnswersBy IsAnswer before.readings after.readings reply
  pub unmoved : after.readings.entered ≡ before.readings.entered → after.seen ≡ before.seen
  pub uncalled : call ≡ None
  pub counts : after.counts ≡ before.counts
  pub undrawn : after.drawing ≡ before.drawing

-- One call imports the body, and the reply is the one for how it ended. All that it stored was drawn.
pub record GrantsImport (body : List ℕ) (journal : List Batch) (before after : Moment)
    (call : Option ImportCall) (reply : Reply) : Type 0 where
  pub made : ImportCall
  pub called : call ≡ Some made
  pub body_is : made.body ≡ body
  pub counts : CountsRose made.ending before.counts after.counts
  pub replies : RepliesTo made.ending before.seen journal body made.games reply
  pub drawn : DrewPlacesOf (most_untold made.ending) journal replies.imported.batches
      before.drawing after.drawing
  pub readings : after.readings ≡ before.readings

-- the reply is a fixed one, and nothing else happens
pub record GrantsFixed (fixed : Reply) (before after : Moment) (call : Option ImportCall)
    (reply : Reply) : Type 0 where
  pub is_fixed : reply ≡ fixed
  pub uncalled : call ≡ None
  pub stays : after ≡ before

-- The reply is one to what is asked for, over the journal that the pass has seen then, by what is
-- offered.
abbrev pub Grants : Offer → Route → List Batch → Moment → Moment → Option ImportCall → Reply
    → Type 0
Grants offer (Answer text) journal before after call reply =
    GrantsAnswer (IsNamedAnswerOf offer.book text journal) before after call reply
Grants offer (PlayerAnswer text) journal before after call reply =
    GrantsAnswer (IsPlayerAnswerOf offer.book text journal) before after call reply
Grants offer (Import body) journal before after call reply =
    GrantsImport body journal before after call reply
Grants offer (Fixed fixed) journal before after call reply =
    GrantsFixed fixed before after call reply
Grants offer Silence journal before after call reply = ⊥

-- ---- exchanges

-- Each exchange leads from one moment to the next. What the pass has seen by then is a front of the
-- journal, no shorter than before, and the reply is over that front.
abbrev pub AreExchanges : Offer → List Batch → Moment → List Exchange → Moment → Type 0
AreExchanges offer journal before [] after = after ≡ before
AreExchanges offer journal before (x ∷ xs) after =
    (middle : Moment) × (before.seen ≤ middle.seen) × (middle.seen ≤ length journal)
    × Grants offer (route_of offer x.asked) (take middle.seen journal) before middle x.call x.reply
    × AreExchanges offer journal middle xs after

abbrev pub asked_in : List Exchange → List Asked
asked_in exchanges = map (λ x. x.asked) exchanges

abbrev pub calls_in : List Exchange → List ImportCall
calls_in exchanges = filter_map (λ x. x.call) exchanges

-- the bytes of the replies, one after another
abbrev pub reply_texts : List Exchange → List ℕ
reply_texts exchanges = flat_map (λ x. reply_text x.reply (closes x.asked)) exchanges

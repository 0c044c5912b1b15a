-- Bridge: how a connection comes to be served, step by step.
use Rattle.std.specs.Prelude.{◌≡◌, ⊤, ◌+◌, ◌<◌, ◌≤◌, ℕ, List, [], ◌∷◌, length, slice_get, Option, IfSome}
use Rattle.std.specs.Io.KnownBytes.{Appends, Consumes}
use Rattle.std.specs.List.{AllByRecursion}
use Rattle.outside.specs.Stream.{Stream}
use Rattle.explorer_model.specs.declared.archive.Batch.{Batch}
use Rattle.explorer_model.specs.declared.wire.Asked.{Asked}
use Rattle.explorer_model.specs.declared.wire.Asked.TheVariants as asks
use Rattle.explorer_model.specs.declared.wire.Reply.{Reply}
use Rattle.explorer_model.specs.Cuts.{cuts}
use Rattle.explorer_model.specs.Labels.{no_label}
use Rattle.explorer_model.specs.Timeline.{IsPrefix}
use Rattle.explorer_model.specs.Wire.{body_limit, request_limit}
use Rattle.http_wire.specs.Asking.{Buffer}
use Rattle.ingest_desk.specs.declared.receipt.Receipt.{Receipt}
use Rattle.ingest_desk.specs.declared.report.End.{End}
use Rattle.ingest_desk.specs.declared.report.End.TheVariants as ends
use Rattle.ingest_desk.specs.declared.report.ImportCall.{ImportCall}
use Rattle.ingest_desk.specs.declared.report.Report.{Report}
use Rattle.ingest_desk.specs.Drawn.{most_untold}
use Rattle.ingest_desk.specs.Importers.{CountsRose, ImporterState, TellsAll, call_of}
use Rattle.ingest_desk.specs.Reporting.{Reports}
use Rattle.session.specs.Exchanges.{Backend, Exchange, Grants, AreExchanges, asked_in, calls_in, moment_of, reply_texts}
use Rattle.session.specs.Imports.{DrewPlacesOf, RepliesTo}
use Rattle.session.specs.Replies.{Offer, readings_of, route_of}
use Rattle.session.specs.Serving.{AreOpen, AsksIn}

-- ---- the reply to an import

-- the notes of receipts are fronts of what is seen
abbrev pub KnowsReceipts : {J : Type 0} → List (Receipt J) → List Batch → Type 0
KnowsReceipts receipts seen = AllByRecursion (λ receipt. IsPrefix receipt.note seen) receipts

abbrev pub KnowsNotes : List (List Batch) → List Batch → Type 0
KnowsNotes notes seen = AllByRecursion (λ note. IsPrefix note seen) notes

-- the note of an end, where it has one
abbrev pub KnowsEnd : {J : Type 0} → End J → List Batch → Type 0
KnowsEnd (ends.Full games bytes note) seen = IsPrefix note seen
KnowsEnd _ seen = ⊤

-- the pass has learnt all that the report of an import tells
pub record HasLearnt (J : Type 0) (body : List ℕ) (before after : ImporterState) (seen : List Batch)
    : Type 0 where
  pub report : Report J
  pub reports : Reports no_label (cuts body) report
  pub told : TellsAll before.calls after.calls (call_of body report ∷ [])
  pub receipts : KnowsReceipts report.receipts.items seen
  pub clashes : KnowsNotes report.clashes.items seen
  pub end : KnowsEnd report.end seen

-- the first of the receipts, so each of them, tells of a batch behind so many
abbrev pub AreBehind : {J : Type 0} → ℕ → List (Receipt J) → Type 0
AreBehind seen receipts = IfSome (slice_get receipts 0) (λ receipt. seen < receipt.batches)

-- the body is imported and gets the reply
pub record ImportReplied (body : List ℕ) (before : Backend) (reply : Reply) (after : Backend)
    : Type 0 where
  pub call : ImportCall
  pub grew : IsPrefix before.pass.seen after.pass.seen
  pub body_is : call.body ≡ body
  pub counts : CountsRose call.ending before.importer.counts after.importer.counts
  pub replies : RepliesTo call.ending (length before.pass.seen) after.pass.seen body call.games
      reply
  pub drawn : DrewPlacesOf (most_untold call.ending) after.pass.seen replies.imported.batches
      before.importer.drawing after.importer.drawing
  pub readings : readings_of after.pass ≡ readings_of before.pass
  pub called : TellsAll before.importer.calls after.importer.calls (call ∷ [])

-- ---- one exchange

-- a reply is given to it
abbrev pub IsReplied : Asked → Type 0
IsReplied (asks.Wanted request) = length request.body ≤ body_limit
IsReplied asks.Done = ⊥
IsReplied asks.Cut = ⊥
IsReplied asks.ReadFault = ⊥
IsReplied _ = ⊤

-- it gets the reply
pub record Replied (offer : Offer) (asked : Asked) (before : Backend) (reply : Reply)
    (after : Backend) : Type 0 where
  pub call : Option ImportCall
  pub grew : IsPrefix before.pass.seen after.pass.seen
  pub grants : Grants offer (route_of offer asked) after.pass.seen (moment_of before)
      (moment_of after) call reply
  pub called : TellsAll before.importer.calls after.importer.calls
      (calls_in (record { asked = asked; reply = reply; call = call } ∷ []))

-- ---- a connection so far

-- a connection is open, and this is in its wire
pub record IsServing (offer : Offer) (link : Stream) (before : Backend) (wire : Buffer)
    (link' : Stream) (after : Backend) : Type 0 where
  pub exchanges : List Exchange
  pub taken : List ℕ
  pub took : Consumes link.left link'.left taken
  pub given : link'.given ≡ link.given + length taken
  pub asked : AsksIn request_limit taken (asked_in exchanges) wire.pending
  pub open_still : AreOpen exchanges
  pub count : wire.more + length exchanges ≡ request_limit
  pub grew : IsPrefix before.pass.seen after.pass.seen
  pub served : AreExchanges offer after.pass.seen (moment_of before) exchanges (moment_of after)
  pub wrote : Appends link.written link'.written (reply_texts exchanges)
  pub called : TellsAll before.importer.calls after.importer.calls (calls_in exchanges)
  pub read_faults : link'.read_faults ≡ link.read_faults
  pub write_faults : link'.write_faults ≡ link.write_faults

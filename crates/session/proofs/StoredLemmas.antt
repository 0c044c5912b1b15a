-- What an import stored, in what the pass then has seen.
use Rattle.std.proofs.Common.{◌≡◌, ◌+◌, ◌-◌, ◌<◌, ℕ, List, [], ◌∷◌, length, refl, sym, ◌∙◌, ap, length-append, arith}
use Rattle.std.specs.List.{All, AllZip}
use Rattle.std.specs.Prelude.{slice_get, Some}
use Rattle.std.proofs.lemmas.List.Concat.{flat_map-append}
use Rattle.std.proofs.lemmas.List.Elements.{All-contains, All-from_recursion, All-weaker}
use Rattle.std.proofs.lemmas.List.Sums.{sum_by-cons}
use Rattle.explorer_model.specs.declared.archive.Batch.{Batch}
use Rattle.explorer_model.specs.declared.fault.Refusal.{Refusal}
use Rattle.explorer_model.specs.declared.fault.Why.{Why}
use Rattle.explorer_model.specs.declared.fault.Why.TheVariants.{Preamble, TooLong, Game, Twice, Repeated}
use Rattle.explorer_model.specs.declared.wire.Reply.{Reply}
use Rattle.explorer_model.specs.Cuts.{Cut, cuts}
use Rattle.explorer_model.specs.Labels.{no_label}
use Rattle.explorer_model.specs.Imports.{AccountedBeside, groups}
use Rattle.explorer_model.specs.Journal.{game_count}
use Rattle.explorer_model.specs.Timeline.{IsPrefix}
use Rattle.explorer_model.specs.Visits.{texts_of}
use Rattle.published_index.specs.Places.{Drawing}
use Rattle.ingest_desk.specs.Drawn.{DrawsFor, most_untold, receipt_places}
use Rattle.ingest_desk.specs.declared.receipt.Receipt.{Receipt}
use Rattle.ingest_desk.specs.declared.report.End.{End}
use Rattle.ingest_desk.specs.declared.report.End.TheVariants as ends
use Rattle.ingest_desk.specs.declared.report.Report.{Report}
use Rattle.ingest_desk.specs.Importers.{EndsInMemory, ending_of}
use Rattle.ingest_desk.specs.Lives.{StandFrom}
use Rattle.ingest_desk.specs.Reporting.{AccountsTo, AreReceipts, RepeatsBy, RepeatsGame, Reports, games_of}
use Rattle.session.specs.Imports.{AccountsBy, DrewPlacesOf, AreNew, HasImported, HasStoredBody, IsRepeatOf, RepliesTo, TellsEnding}
use Rattle.session.specs.Steps.{AreBehind, KnowsEnd, KnowsNotes, KnowsReceipts}
use Rattle.session.proofs.FrontLemmas.{get-prefix}

-- the batches of receipts stand in a journal that begins with their notes
pub receipts-stand : {J : Type 0} (least : ℕ) (receipts : List (Receipt J)) (batches journal : List Batch)
    → AreReceipts least receipts batches → KnowsReceipts receipts journal
    → StandFrom least journal batches
receipts-stand least [] [] journal are knows = tt
receipts-stand least (r ∷ rs) (b ∷ bs) journal are knows =
    (are.0, are.1, get-prefix r.note journal are.0 b knows.0 are.2.stands, receipts-stand (are.0 + 1) rs bs journal are.3 knows.1)
receipts-stand least [] (b ∷ bs) journal are knows = absurd are
receipts-stand least (r ∷ rs) [] journal are knows = absurd are

-- the batches of receipts stand there at the receipts' places
receipts-at : {J : Type 0} (least : ℕ) (receipts : List (Receipt J)) (batches journal : List Batch)
    → AreReceipts least receipts batches → KnowsReceipts receipts journal
    → AllZip (λ place batch. slice_get journal place ≡ Some batch) (receipt_places receipts) batches
receipts-at least [] [] journal are knows = tt
receipts-at least (r ∷ rs) (b ∷ bs) journal are knows =
    let here : r.batches - 1 ≡ are.0 = omega (arith, are.2.batches) in (
      ap (λ (n : ℕ). slice_get journal n) here ∙ get-prefix r.note journal are.0 b knows.0 are.2.stands,
      receipts-at (are.0 + 1) rs bs journal are.3 knows.1,
    )
receipts-at least [] (b ∷ bs) journal are knows = absurd are
receipts-at least (r ∷ rs) [] journal are knows = absurd are

-- what an import drew is where its batches stand
pub are-drawn : {J : Type 0} (most : ℕ) (receipts : List (Receipt J)) (batches journal : List Batch) (before after : Drawing)
    → AreReceipts 0 receipts batches → KnowsReceipts receipts journal → DrawsFor most receipts before after
    → DrewPlacesOf most journal batches before after
are-drawn most receipts batches journal before after are knows draws = record {
  places = receipt_places receipts;
  stand = receipts-at 0 receipts batches journal are knows;
  untold = draws.untold;
  few = draws.few;
  drawn = draws.drawn;
}

-- the receipts count the games of their batches
receipts-count : {J : Type 0} (least : ℕ) (receipts : List (Receipt J)) (batches : List Batch)
    → AreReceipts least receipts batches → games_of receipts ≡ game_count batches
receipts-count least [] [] are = refl
receipts-count least (r ∷ rs) (b ∷ bs) are =
    sum_by-cons (λ receipt. receipt.games) r rs
    ∙ (ap (λ n. n + games_of rs) are.2.games
    ∙ (ap (λ n. length b.texts + n) (receipts-count (are.0 + 1) rs bs are.3)
    ∙ sym (length-append b.texts (texts_of bs))))
receipts-count least [] (b ∷ bs) are = absurd are
receipts-count least (r ∷ rs) [] are = absurd are

texts-prefix : (front journal : List Batch) → IsPrefix front journal
    → IsPrefix (texts_of front) (texts_of journal)
texts-prefix front journal p = record {
  rest = texts_of p.rest;
  is = ap texts_of p.is ∙ flat_map-append (λ batch. batch.texts) front p.rest;
}

-- a game of a front is that game of the journal
repeats-grow : (cuts : List Cut) (place : ℕ) (front journal : List Batch) (number : ℕ)
    → IsPrefix front journal → RepeatsGame cuts place front number
    → RepeatsGame cuts place journal number
repeats-grow cuts place front journal number p r = record {
  text = r.text;
  stands = r.stands;
  game = r.game;
  is_game = r.is_game;
  earlier_text = r.earlier_text;
  stored = get-prefix (texts_of front) (texts_of journal) number r.earlier_text (texts-prefix front journal p) r.stored;
  earlier = r.earlier;
  is_earlier = r.is_earlier;
  same_id = r.same_id;
}

repeat-known : (cuts : List Cut) (notes : List (List Batch)) (place : ℕ) (why : Why) (journal : List Batch)
    → KnowsNotes notes journal → RepeatsBy cuts notes place why → IsRepeatOf cuts journal place why
repeat-known cuts notes place Preamble journal knows r = tt
repeat-known cuts notes place (TooLong n) journal knows r = tt
repeat-known cuts notes place (Game fault) journal knows r = tt
repeat-known cuts notes place (Twice first) journal knows r = tt
repeat-known cuts notes place (Repeated number) journal knows r =
    let told = All-contains (λ note. IsPrefix note journal) notes r.0 (All-from_recursion (λ note. IsPrefix note journal) notes knows) r.1 in
    repeats-grow cuts place r.0 journal number told r.2

pub repeats-known : (cuts : List Cut) (notes : List (List Batch)) (refused : List Refusal) (journal : List Batch)
    → KnowsNotes notes journal → All (λ r. RepeatsBy cuts notes r.place r.why) refused
    → All (λ r. IsRepeatOf cuts journal r.place r.why) refused
repeats-known cuts notes refused journal knows each =
    All-weaker (λ r. RepeatsBy cuts notes r.place r.why) (λ r. IsRepeatOf cuts journal r.place r.why)
    (λ r. repeat-known cuts notes r.place r.why journal knows) refused each

-- how an import accounted the groups, over a journal that has all that was told
accounts-by : {J : Type 0} (end : End J) (journal : List Batch) (groups : List (List Cut)) (batches : List Batch)
    (refused : List Refusal) → EndsInMemory (ending_of end) → KnowsEnd end journal → AccountsTo no_label end groups batches refused
    → AccountsBy (ending_of end) journal groups batches refused
accounts-by ends.Whole journal groups batches refused in_memory told a = a
accounts-by (ends.ReadFault before after) journal groups batches refused in_memory told a = absurd in_memory
accounts-by (ends.DiskFault before after mark) journal groups batches refused in_memory told a = (a.0, a.1)
accounts-by (ends.Closed before after mark) journal groups batches refused in_memory told a = (a.0, a.1)
accounts-by (ends.Full games bytes note) journal groups batches refused in_memory told a =
    (a.0, a.1, record { front = note; is_front = told; no_room = a.2 })
accounts-by (ends.TooMuch bytes) journal groups batches refused in_memory told a = absurd in_memory
accounts-by ends.OutOfMemory journal groups batches refused in_memory told a = a

-- what an import stored and refused of a body, over a journal that has all that was told
pub has-imported : {J : Type 0} (body : List ℕ) (report : Report J) (journal : List Batch)
    → Reports no_label (cuts body) report → EndsInMemory (ending_of report.end)
    → KnowsReceipts report.receipts.items journal → KnowsNotes report.clashes.items journal → KnowsEnd report.end journal
    → HasImported (ending_of report.end) journal body (games_of report.receipts.items) report.refused.items
has-imported body report journal reports in_memory knows notes told = record {
  batches = reports.batches;
  stand = receipts-stand 0 report.receipts.items reports.batches journal reports.are_receipts knows;
  count = receipts-count 0 report.receipts.items reports.batches reports.are_receipts;
  accounted = accounts-by report.end journal (groups (cuts body)) reports.batches report.refused.items in_memory told reports.accounts;
  repeats = repeats-known (cuts body) report.clashes.items report.refused.items journal notes reports.repeats;
}

-- what is told by receipts behind so many batches stands behind them
receipts-behind : {J : Type 0} (seen : ℕ) (receipts : List (Receipt J)) (batches : List Batch)
    → AreBehind seen receipts → AreReceipts 0 receipts batches → AreReceipts seen receipts batches
receipts-behind seen [] [] behind are = tt
receipts-behind seen (r ∷ rs) (b ∷ bs) behind are =
    let less : seen < r.batches = behind in (are.0, omega (arith, less, are.2.batches), are.2, are.3)
receipts-behind seen [] (b ∷ bs) behind are = absurd are
receipts-behind seen (r ∷ rs) [] behind are = absurd are

pub stand-behind : {J : Type 0} (seen : ℕ) (receipts : List (Receipt J)) (batches journal : List Batch)
    → AreBehind seen receipts → AreReceipts 0 receipts batches → KnowsReceipts receipts journal
    → StandFrom seen journal batches
stand-behind seen receipts batches journal behind are knows =
    receipts-stand seen receipts batches journal (receipts-behind seen receipts batches behind are) knows

-- the reply to an import, over a journal that has all that was told, and what was drawn for it
pub replies-to : {J : Type 0} (body : List ℕ) (report : Report J) (seen : ℕ) (journal : List Batch) (reply : Reply) (before after : Drawing)
    → (reports : Reports no_label (cuts body) report) → EndsInMemory (ending_of report.end)
    → KnowsReceipts report.receipts.items journal → KnowsNotes report.clashes.items journal → KnowsEnd report.end journal
    → TellsEnding (ending_of report.end) (length journal) (games_of report.receipts.items) report.refused.items reply
    → AreNew reply seen journal reports.batches → DrawsFor (most_untold (ending_of report.end)) report.receipts.items before after
    → (replies : RepliesTo (ending_of report.end) seen journal body (games_of report.receipts.items) reply)
    × DrewPlacesOf (most_untold (ending_of report.end)) journal replies.imported.batches before after
unfolding has-imported
replies-to body report seen journal reply before after reports in_memory knows notes told tells new draws = (
  record {
    refused = report.refused.items;
    imported = has-imported body report journal reports in_memory knows notes told;
    tells = tells;
    are_new = new;
  },
  are-drawn (most_untold (ending_of report.end)) report.receipts.items reports.batches journal before after reports.are_receipts knows draws,
)

-- a whole import stored its body in a journal that has all that was told
pub has-stored-body : {J : Type 0} (body : List ℕ) (report : Report J) (journal : List Batch)
    → (reports : Reports no_label (cuts body) report)
    → AccountedBeside no_label (groups (cuts body)) reports.batches report.refused.items
    → KnowsReceipts report.receipts.items journal → KnowsNotes report.clashes.items journal
    → HasStoredBody journal body (games_of report.receipts.items) report.refused.items
has-stored-body body report journal reports accounts knows notes = record {
  batches = reports.batches;
  stand = receipts-stand 0 report.receipts.items reports.batches journal reports.are_receipts knows;
  count = receipts-count 0 report.receipts.items reports.batches reports.are_receipts;
  accounted = accounts;
  repeats = repeats-known (cuts body) report.clashes.items report.refused.items journal notes reports.repeats;
}

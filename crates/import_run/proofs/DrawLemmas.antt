-- What the drawer of an import draws, step by step.
use Rattle.std.proofs.Common.{◌≡◌, ◌≤◌, ◌-◌, ℕ, true, false, List, [], ◌∷◌, ◌++◌, length, Result, Ok, Err, refl, sym, ap, subst, ◌∙◌, append_assoc, append-nil, arith}
use Rattle.std.proofs.lemmas.List.{map-append}
use Rattle.std.specs.Prelude.{IsErrAnd}
use Rattle.explorer_model.specs.declared.fault.Stop.{Stop}
use Rattle.explorer_model.specs.declared.fault.Stop.TheVariants as stops
use Rattle.disk_model.specs.Disk.{DiskState}
use Rattle.tally_rows.specs.Tally.{Counted}
use Rattle.published_index.specs.Places.{Drawing, with_place, with_places}
use Rattle.ingest_desk.specs.Commits.{CommitsBy}
use Rattle.ingest_desk.specs.Drawn.{DrawsFor, most_untold, receipt_places}
use Rattle.ingest_desk.specs.Stored.{Stored, journal}
use Rattle.ingest_desk.specs.Importers.{ending_of}
use Rattle.ingest_desk.specs.declared.report.End.TheVariants as ends
use Rattle.ingest_desk.specs.declared.report.Report.{Report}
use Rattle.ingest_desk.specs.declared.fault.CommitFault.{CommitFault}
use Rattle.ingest_desk.specs.declared.fault.CommitFault.TheVariants as faults
use Rattle.ingest_desk.specs.declared.receipt.Receipt.{Receipt}
use Rattle.import_run.specs.declared.open_import.Stopped.{Stopped}
use Rattle.import_run.specs.Rounds.{IsDecided}
use Rattle.import_run.specs.Draws.{DrawsFew, DrawsPlace, most_untold_by}

none-of : (places : List ℕ) → length places ≤ 0 → places ≡ []
none-of [] few = refl
none-of (place ∷ places) few = absurd (omega arith)

with-none : (drawing : Drawing) → with_places [] drawing ≡ drawing
with-none drawing = ap (λ (drawn : List ℕ). record { parts = drawing.parts; drawn = drawn }) (append-nil drawing.drawn)

-- what is drawn in two steps
with-both : (first second : List ℕ) (drawing : Drawing)
    → with_places second (with_places first drawing) ≡ with_places (first ++ second) drawing
with-both first second drawing =
    ap (λ (drawn : List ℕ). record { parts = drawing.parts; drawn = drawn }) (append_assoc drawing.drawn first second)

-- ---- an import

-- before the first step nothing is drawn
pub draws-none : {J : Type 0} (drawing : Drawing) → DrawsFor {J = J} 0 [] drawing drawing
draws-none drawing = record { untold = []; few = omega arith; drawn = sym (with-none drawing) }

pub draws-within : {J : Type 0} (most more : ℕ) (receipts : List (Receipt J)) (before after : Drawing) → most ≤ more
    → DrawsFor most receipts before after → DrawsFor more receipts before after
draws-within most more receipts before after less h = record {
  untold = h.untold;
  few = let few = h.few in omega arith;
  drawn = h.drawn;
}

-- the same receipts, behind which nothing was drawn
pub draws-same : {J : Type 0} (most : ℕ) (receipts same : List (Receipt J)) (before after : Drawing) → same ≡ receipts
    → DrawsFor 0 receipts before after → DrawsFor most same before after
draws-same most receipts same before after is h =
    subst (λ (rs : List (Receipt _)). DrawsFor most rs before after) (sym is) (draws-within 0 most receipts before after (omega arith) h)

-- what stands behind the receipts' places where no more than these were drawn
behind : {J : Type 0} (receipts : List (Receipt J)) (before mid : Drawing) (places : List ℕ)
    → DrawsFor 0 receipts before mid → with_places places mid ≡ with_places (receipt_places receipts ++ places) before
behind receipts before mid places h =
    let all = ap (λ (untold : List ℕ). receipt_places receipts ++ untold) (none-of h.untold h.few) ∙ append-nil (receipt_places receipts) in
    ap (with_places places) (h.drawn ∙ ap (λ (ps : List ℕ). with_places ps before) all)
    ∙ with-both (receipt_places receipts) places before

-- a receipt more, whose place is drawn
pub draws-receipt : {J : Type 0} (receipts : List (Receipt J)) (receipt : Receipt J) (before mid after : Drawing)
    → DrawsFor 0 receipts before mid → after ≡ with_place (receipt.batches - 1) mid
    → DrawsFor 0 (receipts ++ receipt ∷ []) before after
draws-receipt receipts receipt before mid after h is = record {
  untold = [];
  few = omega arith;
  drawn = is ∙ behind receipts before mid ((receipt.batches - 1) ∷ []) h
      ∙ ap (λ (ps : List ℕ). with_places ps before)
      (sym (append-nil (receipt_places (receipts ++ receipt ∷ [])) ∙ map-append (λ r. r.batches - 1) receipts (receipt ∷ [])));
}

-- places of batches that have no receipt
pub draws-few : {J : Type 0} (most : ℕ) (receipts : List (Receipt J)) (before mid after : Drawing)
    → DrawsFor 0 receipts before mid → DrawsFew most mid after → DrawsFor most receipts before after
draws-few most receipts before mid after h few = record {
  untold = few.places;
  few = few.few;
  drawn = few.drawn ∙ behind receipts before mid few.places h;
}

-- ---- a commit

pub few-none : (most : ℕ) (old new : Drawing) → new ≡ old → DrawsFew most old new
few-none most old new same = record { places = []; few = omega arith; drawn = same ∙ sym (with-none old) }

pub few-one : (place : ℕ) (old new : Drawing) → new ≡ with_place place old → DrawsFew 1 old new
few-one place old new is = record { places = place ∷ []; few = omega arith; drawn = is }

-- whatever a commit answers, it draws one place at the most
pub few-answered : {J : Type 0} (answer : Result (Receipt J) (CommitFault J)) (old new : Drawing)
    → DrawsPlace answer old new → DrawsFew 1 old new
few-answered (Ok receipt) old new draws = few-one _ old new draws
few-answered (Err (faults.Closed before after mark)) old new draws = few-none 1 old new draws
few-answered (Err (faults.Clash handed pairs note)) old new draws = few-none 1 old new draws
few-answered (Err (faults.Full games bytes note)) old new draws = few-none 1 old new draws
few-answered (Err (faults.DiskFault before after mark)) old new draws = few-none 1 old new draws
few-answered (Err (faults.OutOfMemory true)) old new draws = few-one _ old new draws.1
few-answered (Err (faults.OutOfMemory false)) old new draws = few-none 1 old new draws

-- a commit that is decided and stores nothing draws nothing
pub stopped-draws : {J : Type 0} (fault : CommitFault J) (old new : Drawing) → IsDecided {J = J} (Err fault)
    → DrawsPlace {J = J} (Err fault) old new → new ≡ old
stopped-draws (faults.Closed before after mark) old new decided draws = draws
stopped-draws (faults.Clash handed pairs note) old new decided draws = draws
stopped-draws (faults.Full games bytes note) old new decided draws = draws
stopped-draws (faults.DiskFault before after mark) old new decided draws = draws
stopped-draws (faults.OutOfMemory true) old new decided draws = absurd decided
stopped-draws (faults.OutOfMemory false) old new decided draws = draws

-- what a commit draws, by its answer alone
pub place-of : {D J : Type 0} (disk : D → DiskState) (left_since : D → ℕ → List ℕ → Type 0) (tally : Counted) (old new : Stored D) (had has : Drawing) (answer : Result (Receipt J) (CommitFault J))
    → CommitsBy disk left_since tally old new had has answer → DrawsPlace answer had has
place-of disk left_since tally old new had has (Ok receipt) is =
    let here : receipt.batches - 1 ≡ length (journal old) = let batches = is.receipt.batches in omega arith in
    is.drawn ∙ ap (λ (p : ℕ). with_place p had) (sym here)
place-of disk left_since tally old new had has (Err (faults.Closed before after mark)) is = is.drawn
place-of disk left_since tally old new had has (Err (faults.Clash handed pairs note)) is = is.drawn
place-of disk left_since tally old new had has (Err (faults.Full games bytes note)) is = is.drawn
place-of disk left_since tally old new had has (Err (faults.DiskFault before after mark)) is = is.drawn
place-of disk left_since tally old new had has (Err (faults.OutOfMemory true)) is = (length (journal old), is.drawn)
place-of disk left_since tally old new had has (Err (faults.OutOfMemory false)) is = is.drawn

-- ---- a step that lacks memory

-- where memory was wanting one place more may be drawn
pub draws-lacking : {J A : Type 0} (result : Result A (Stop (Stopped J))) (receipts : List (Receipt J)) (before after : Drawing)
    → IsErrAnd result (λ stop. stop ≡ stops.OutOfMemory) → DrawsFor 1 receipts before after
    → DrawsFor (most_untold_by result) receipts before after
draws-lacking (Ok done) receipts before after is h = absurd is
draws-lacking {J} {A} (Err stop) receipts before after is h =
    subst (λ (s : Stop (Stopped J)). DrawsFor (most_untold_by {A = A} (Err s)) receipts before after) (sym is) h

-- a report for which memory was wanting
pub draws-told : {J : Type 0} (report : Report J) (receipts : List (Receipt J)) (before after : Drawing) → report.end ≡ ends.OutOfMemory
    → report.receipts.items ≡ receipts → DrawsFor 1 receipts before after
    → DrawsFor (most_untold (ending_of report.end)) report.receipts.items before after
draws-told report receipts before after end same h =
    subst (λ e. DrawsFor (most_untold (ending_of e)) report.receipts.items before after) (sym end)
    (subst (λ rs. DrawsFor 1 rs before after) (sym same) h)

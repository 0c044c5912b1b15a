-- What an import comes to, by its end, where the store is known.
use Rattle.std.proofs.Common.{◌≡◌, inl, inr, ℕ, ◌<◌, ◌≤◌, List, [], ◌∷◌, ◌++◌, Option, Some, length, refl, sym, ap, subst, ◌∙◌, arith}
use Rattle.std.specs.Io.KnownBytes.{IsAtEnd}
use Rattle.std.proofs.lemmas.List.{append-nil}
use Rattle.outside.specs.Stream.{Stream}
use Rattle.explorer_model.specs.declared.archive.Batch.{Batch}
use Rattle.explorer_model.specs.declared.fault.Refusal.{Refusal}
use Rattle.explorer_model.specs.Cuts.{Cut, cuts}
use Rattle.explorer_model.specs.Imports.{groups}
use Rattle.explorer_model.specs.Journal.{input_limit}
use Rattle.ingest_desk.specs.declared.receipt.Receipt.{Receipt}
use Rattle.ingest_desk.specs.declared.report.End.{End}
use Rattle.ingest_desk.specs.declared.report.End.TheVariants as ends
use Rattle.ingest_desk.specs.declared.report.Report.{Report}
use Rattle.import_run.specs.declared.open_import.OpenImport.{OpenImport}
use Rattle.import_run.specs.declared.open_import.Stopped.{Stopped}
use Rattle.import_run.specs.Committing.{Known, Store, store_of}
use Rattle.import_run.specs.Ending.{AreSettled, HasMaybeOneMore, ReadFaultsAre, StandsAt, StoresBy}
use Rattle.import_run.specs.Progress.{AreReceiptsOf, Progress}
use Rattle.import_run.specs.Rounds.{MayStore}
use Rattle.import_run.specs.SoFar.{AreAllGroups, AreGroupsSoFar, AreInGroups}
use Rattle.import_run.specs.Taking.{ComesQuietly, ComesTo, CutSoFar, IsReady, IsWholeSettled, LacksAtEnd, LacksBehind, LacksWithin, StopsAtEnd, StopsBehind, StopsIn, StopsWithin, TakenAll}
use Rattle.import_run.proofs.AccountLemmas.{alike}
use Rattle.import_run.proofs.HoldLemmas.{holds_texts}
use Rattle.import_run.proofs.SettledLemmas.{settled_alone, stop_alone}
use Rattle.import_run.proofs.SoFarLemmas.{ended_taken, lacking_so_far, stopped_so_far}
use Rattle.import_run.proofs.StopLemmas.{EndsSo, ends_so}
use Rattle.import_run.proofs.TakingLemmas.{lacks_more}

-- the batch of a group is one batch more
maybe_more : (label : List ℕ) (known : Known) (groups : List (List Cut)) (journal : List Batch) → MayStore label known groups journal → HasMaybeOneMore known.journal journal
maybe_more label known [] journal is = inl is
maybe_more label known (next ∷ groups) journal (inl is) = inl is
maybe_more label known (next ∷ groups) journal (inr more) = inr (more.0, more.2)

module _ {J : Type 0} (start : Known) (report : Report J) (stream : List ℕ) (left_over : Option (List ℕ)) (told : Option Store) where
  comes_by : {label : List ℕ} (end : End J) → report.end ≡ end → (batches : List Batch) → AreReceiptsOf start.journal report.receipts.items batches
      → (new : Store) → told ≡ Some new → StandsAt label end start stream left_over batches report.refused.items new → StoresBy end (start.journal ++ batches) start.fault new
      → ComesTo label start stream left_over report told
  comes_by {label} end is batches receipts new still stands stores =
      let P : End J → Type 0 = λ e. StandsAt label e start stream left_over batches report.refused.items new in
      let Q : End J → Type 0 = λ e. StoresBy e (start.journal ++ batches) start.fault new in
      record { batches = batches; receipts = receipts; new = new; still = still; stands = subst P (sym is) stands; stores = subst Q (sym is) stores }

  quietly : {label : List ℕ} (end : End J) → report.end ≡ end → ((old new : Stream) → new.read_faults ≡ old.read_faults → ReadFaultsAre end old new) → ComesTo label start stream left_over report told
      → ComesQuietly label start stream left_over report told
  quietly {label} end is quiet comes =
      let P : End J → Type 0 = λ e. (old new : Stream) → new.read_faults ≡ old.read_faults → ReadFaultsAre e old new in
      record { comes = comes; quiet = subst P (sym is) quiet }

  settled_by : {label : List ℕ} (groups : List (List Cut)) (receipts : List (Receipt J)) (refused : List Refusal) (now : Option Store) → (p : Progress label start groups receipts refused now) → AreSettled label start groups p.batches refused
  settled_by {label} groups receipts refused now p = record { accounted = p.accounted; closed = p.closed }

  -- ---- streams that break off

  -- a read failed
  pub comes_cut_off : {label : List ℕ} (before after : ℕ) → report.end ≡ ends.ReadFault before after → length stream < input_limit → IsWholeSettled label start stream report.receipts.items report.refused.items told
      → ComesTo label start stream left_over report told
  comes_cut_off {label} before after is below w =
      let p = w.progress in
      comes_by (ends.ReadFault before after) is p.batches p.receipts_are (store_of p.known) p.still
      (record { below = below; whole = w.whole; hand = w.hand; in_groups = w.in_groups; settled = settled_by w.whole report.receipts.items report.refused.items told p })
      (p.journal, p.fault)

  -- the bound was reached
  pub comes_too_much : {label : List ℕ} (bytes : ℕ) → report.end ≡ ends.TooMuch bytes → bytes ≡ length stream → length stream ≡ input_limit → (front : List ℕ) (last : ℕ) → stream ≡ front ++ last ∷ []
      → IsWholeSettled label start front report.receipts.items report.refused.items told → ComesTo label start stream left_over report told
  comes_too_much {label} bytes is long at front last front_is w =
      let p = w.progress in
      comes_by (ends.TooMuch bytes) is p.batches p.receipts_are (store_of p.known) p.still
      (long, record { at = at; front = front; last = last; front_is = front_is; whole = w.whole; hand = w.hand; in_groups = w.in_groups; settled = settled_by w.whole report.receipts.items report.refused.items told p })
      (p.journal, p.fault)

  -- ---- the end of a stream

  all_settled : {label : List ℕ} (closed : List (List Cut)) (hand : List Cut) (batches : List Batch) (refused : List Refusal) → AreInGroups (cuts stream) closed hand → AreSettled label start (closed ++ hand ∷ []) batches refused
      → AreSettled label start (groups (cuts stream)) batches refused
  all_settled {label} closed hand batches refused are s =
      let a = alike label start.games closed hand s.accounted.examinations are.each (omega (arith, are.few)) s.accounted.are_examinations in
      let P : List Cut → Type 0 = λ l. AreSettled label start (groups l) batches refused in
      subst P (sym are.all) (record {
        accounted = record {
          examinations = a.others;
          are_examinations = a.are;
          yields = record { batches_are = s.accounted.yields.batches_are ∙ sym a.batches; refused_are = s.accounted.yields.refused_are ∙ sym a.refused };
        };
        closed = λ some. a.none (s.closed some);
      })

  -- all of it was settled
  pub comes_whole : (import : OpenImport J) → report.end ≡ ends.Whole → report.receipts.items ≡ import.receipts.items → report.refused.items ≡ import.refused.items → IsAtEnd left_over → length stream < input_limit
      → (taken : List Cut) → taken ≡ cuts stream → TakenAll (Some (store_of start)) taken import told → ComesQuietly import.group.label start stream left_over report told
  comes_whole import is receipts refused at_end below taken all done =
      let p = settled_alone done.settled start refl in
      let R : List (Receipt J) → Type 0 = λ l. AreReceiptsOf start.journal l p.batches in
      let S : List Refusal → Type 0 = λ l. AreSettled import.group.label start (groups (cuts stream)) p.batches l in
      let G : List Cut → Type 0 = λ l. AreInGroups l done.closed done.hand in
      quietly ends.Whole is (λ old new same. same)
      (comes_by ends.Whole is p.batches (subst R (sym receipts) p.receipts_are) (store_of p.known) p.still
      (at_end, below, subst S (sym refused) (all_settled done.closed done.hand p.batches import.refused.items (subst G all done.in_groups) (record { accounted = p.accounted; closed = p.closed })))
      (p.journal, p.fault))

  -- ---- want of memory

  module _ (import : OpenImport J) (is : report.end ≡ ends.OutOfMemory) (receipts : report.receipts.items ≡ import.receipts.items) (refused : report.refused.items ≡ import.refused.items)
      (below : length stream < input_limit) where
    comes_lacking : (so_far done rest : List (List Cut)) → AreGroupsSoFar stream left_over so_far → so_far ≡ done ++ rest → LacksBehind (Some (store_of start)) done rest import told → ComesQuietly import.group.label start stream left_over report told
    comes_lacking so_far done rest are so_far_is b =
        let p = settled_alone b.settled start refl in
        let m = b.lacks p.known p.still in
        let R : List (Receipt J) → Type 0 = λ l. AreReceiptsOf start.journal l p.batches in
        let S : List Refusal → Type 0 = λ l. AreSettled import.group.label start done p.batches l in
        let M : List Batch → Type 0 = λ j. HasMaybeOneMore j m.new.journal in
        quietly ends.OutOfMemory is (λ old new same. inl same)
        (comes_by ends.OutOfMemory is p.batches (subst R (sym receipts) p.receipts_are) m.new m.still
        (record {
          below = below;
          so_far = so_far;
          are_so_far = are;
          done = done;
          rest = rest;
          so_far_is = so_far_is;
          settled = subst S (sym refused) (record { accounted = p.accounted; closed = p.closed });
          known = p.known;
          journal_is = p.journal;
          fault_is = p.fault;
          stored_is = m.journal;
        })
        (subst M p.journal (maybe_more import.group.label p.known rest m.new.journal m.journal), m.fault ∙ p.fault))

    -- within a stream that may go on
    pub lacking_within : LacksWithin (Some (store_of start)) stream import told → ComesQuietly import.group.label start stream left_over report told
    lacking_within w =
        let l = w.lacks in
        let front = lacking_so_far (Some (store_of start)) stream left_over import told w in
        comes_lacking (l.closed ++ (l.others ++ front.0)) l.closed (l.others ++ front.0) front.1 refl (lacks_more (Some (store_of start)) l.closed l.others front.0 import told l.behind)

    -- at the end of a stream
    pub lacking_at_end : IsAtEnd left_over → (taken : List Cut) → taken ≡ cuts stream → LacksAtEnd (Some (store_of start)) taken import told → ComesQuietly import.group.label start stream left_over report told
    lacking_at_end at_end taken all l =
        let G : List Cut → Type 0 = λ k. AreAllGroups k (l.done ++ l.rest) in
        comes_lacking (l.done ++ l.rest) l.done l.rest (inr (at_end, subst G all l.all)) refl l.behind

  -- ---- a commit that ended the import

  module _ (import : OpenImport J) (stopped : Stopped J) (is : report.end ≡ stopped.end) (receipts : report.receipts.items ≡ import.receipts.items)
      (refused : report.refused.items ≡ import.refused.items ++ stopped.refused.items) (below : length stream < input_limit) where
    comes_stopped : (so_far done rest : List (List Cut)) (next : List Cut) → AreGroupsSoFar stream left_over so_far → so_far ≡ done ++ next ∷ rest → StopsBehind (Some (store_of start)) done next import stopped told
        → ComesQuietly import.group.label start stream left_over report told
    comes_stopped so_far done rest next are so_far_is b =
        let p = settled_alone b.settled start refl in
        let R : List (Receipt J) → Type 0 = λ l. AreReceiptsOf start.journal l p.batches in
        let S : List Refusal → Type 0 = λ l. EndsSo import.group.label start stream left_over p.batches l told stopped.end in
        let so = subst S (sym refused) (ends_so start stream left_over done rest next import.receipts.items import.refused.items b.before p stopped told so_far below are so_far_is (stop_alone b.stops p.known p.still)) in
        quietly stopped.end is so.quiet
        (comes_by stopped.end is p.batches (subst R (sym receipts) p.receipts_are) so.new so.still so.stands so.stores)

    -- within a stream that may go on
    stopped_within : StopsWithin (Some (store_of start)) stream import stopped told → ComesQuietly import.group.label start stream left_over report told
    stopped_within w =
        let s = w.stops in
        let front = stopped_so_far (Some (store_of start)) stream left_over import told stopped w in
        comes_stopped (s.closed ++ s.next ∷ front.0) s.closed front.0 s.next front.1 refl s.behind

    -- at the end of a stream
    stopped_at_end : IsAtEnd left_over → (taken : List Cut) → taken ≡ cuts stream → StopsAtEnd (Some (store_of start)) taken import stopped told → ComesQuietly import.group.label start stream left_over report told
    stopped_at_end at_end taken all s =
        let G : List Cut → Type 0 = λ k. AreAllGroups k (s.done ++ s.next ∷ s.rest) in
        comes_stopped (s.done ++ s.next ∷ s.rest) s.done s.rest s.next (inr (at_end, subst G all s.all)) refl s.behind

    pub stopped_in : StopsIn (Some (store_of start)) stream left_over import stopped told → ComesQuietly import.group.label start stream left_over report told
    stopped_in (inl w) = stopped_within w
    stopped_in (inr (at_end, e)) = stopped_at_end at_end (cuts stream) refl e

-- the whole groups of a stream are settled, where no more than one cut has begun
pub whole_settled : {J : Type 0} (start : Known) (stream : List ℕ) (after : List ℕ → List Cut) (last : List Cut) (import : OpenImport J) (told : Option Store) (receipts : List (Receipt J)) (refused : List Refusal)
    → last ≡ after [] → length last ≤ 1 → IsReady import → CutSoFar (Some (store_of start)) stream after import told → receipts ≡ import.receipts.items → refused ≡ import.refused.items
    → IsWholeSettled import.group.label start stream receipts refused told
whole_settled {J} start stream after last import told receipts refused is few ready so_far receipts_are refused_are =
    let all : so_far.taken ++ last ≡ cuts stream = ap (λ (l : List Cut). so_far.taken ++ l) is ∙ so_far.cut [] ∙ ap cuts (append-nil stream) in
    let long = ap (λ (l : List Cut). length l) is in
    let ended = ended_taken stream so_far.taken last all few (λ some. let begun = so_far.begun some [] in omega (arith, begun, long)) in
    let t = so_far.so_far in
    let P : List Refusal → Type 0 = λ l. Progress import.group.label start t.closed receipts l told in
    let Q : List (Receipt J) → Type 0 = λ l. Progress import.group.label start t.closed l import.refused.items told in
    record {
      whole = t.closed;
      hand = t.hand;
      in_groups = record { all = ended ∙ t.all; each = t.each; few = omega (arith, ready.few, holds_texts t.hand import.group t.group) };
      progress = subst P (sym refused_are) (subst Q (sym receipts_are) (settled_alone t.settled start refl));
    }

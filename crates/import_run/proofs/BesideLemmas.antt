-- Groups that are settled, whoever else stores beside.
use Rattle.std.proofs.Common.{◌≡◌, ◌≢◌, ◌∙◌, ◌+◌, ◌<◌, ◌≤◌, ◌||◌, ℕ, Bool, true, false, List, [], ◌∷◌, ◌++◌, length, map, filter_map, Option, None, Some, Result, Ok, Err, refl, sym, ap, subst, suc, arith, nat_lt, length-append}
use Rattle.std.specs.Prelude.{sum_by}
use Rattle.std.specs.List.{AllZip, Contains, cons_option, flat_map}
use Rattle.std.proofs.lemmas.Bool.Decides.{nat_tests}
use Rattle.std.proofs.lemmas.Grind.{flat_map-append}
use Rattle.std.proofs.lemmas.List.{append-nil, length-map}
use Rattle.std.proofs.lemmas.List.Elements.{All-append, All-from_recursion, Contains-append_left, Contains-append_right, filter_map-append}
use Rattle.std.proofs.lemmas.List.Sums.{sum_by-append}
use Rattle.explorer_model.specs.declared.archive.Batch.{Batch}
use Rattle.explorer_model.specs.declared.fault.Refusal.{Refusal}
use Rattle.explorer_model.specs.Cuts.{Cut}
use Rattle.explorer_model.specs.Imports.{AccountedBeside, AreExaminations, Candidate, Examination, IsExaminationOf, Numbering, Verdict, batch_of, candidates, numbers_of, refusals, verdicts, verdicts_behind, verdicts_by}
use Rattle.explorer_model.specs.Journal.{AreWithin, byte_count, game_count}
use Rattle.explorer_model.specs.Visits.{texts_of}
use Rattle.explorer_model.proofs.Lists.{zip-append}
use Rattle.explorer_model.proofs.Timelines.{prefix-self}
use Rattle.tally_rows.specs.Tally.{Counted}
use Rattle.tally_rows.proofs.Sums.{sum_by-map}
use Rattle.ingest_desk.specs.Causes.{is_over}
use Rattle.ingest_desk.specs.Clashes.{clashes_from}
use Rattle.ingest_desk.specs.Marked.{IsMark}
use Rattle.ingest_desk.specs.Reporting.{AreReceipts, FindsNoRoom, IsReceipt, RepeatsBy}
use Rattle.ingest_desk.specs.declared.fault.CommitFault.{CommitFault}
use Rattle.ingest_desk.specs.declared.fault.CommitFault.TheVariants as faults
use Rattle.ingest_desk.specs.declared.mark.MarkKind.TheVariants as kinds
use Rattle.ingest_desk.specs.declared.receipt.Receipt.{Receipt}
use Rattle.ingest_desk.specs.declared.report.End.{End}
use Rattle.ingest_desk.proofs.RegisterLemmas.{texts_more}
use Rattle.import_run.specs.declared.open_import.Stopped.{Stopped}
use Rattle.import_run.specs.Beside.{AnswersTo, AreRepeats, EndsBeside, IsFullFor, ProgressBeside, SettlesBeside, StopsBeside, last_batches}
use Rattle.import_run.specs.Importing.{IsEndOf}
use Rattle.import_run.specs.Labelling.{CountsUnder}
use Rattle.import_run.specs.Rounds.{IsDecided}
use Rattle.import_run.specs.Settling.{kept, lost}
use Rattle.import_run.proofs.HandLemmas.{batch_texts, counted_ids, kept_none}
use Rattle.import_run.proofs.RepeatLemmas.{all-repeats-grow, repeats}

-- ---- one more group

zip_length : (groups : List (List Cut)) (examinations : List (List Examination)) → AreExaminations groups examinations → length examinations ≡ length groups
zip_length [] [] each = refl
zip_length [] (e ∷ es) each = absurd each
zip_length (g ∷ gs) [] each = absurd each
zip_length (g ∷ gs) (e ∷ es) each = ap suc (zip_length gs es each.1)

by-more : (numbers : List Numbering) (groups : List (List Examination)) (number : Numbering) (group : List Examination) → length numbers ≡ length groups
    → verdicts_by (numbers ++ number ∷ []) (groups ++ group ∷ []) ≡ verdicts_by numbers groups ++ verdicts_behind number group ∷ []
by-more [] [] number group same = refl
by-more [] (g ∷ groups) number group same = absurd (omega (arith, same))
by-more (n ∷ numbers) [] number group same = absurd (omega (arith, same))
by-more (n ∷ numbers) (g ∷ groups) number group same = ap (λ (l : List (List Verdict)). verdicts_behind n g ∷ l) (by-more numbers groups number group (omega (arith, same)))

abbrev batch_in : List ℕ → List Verdict → Option Batch
batch_in label group = batch_of label (candidates group)

accounted_more : {label : List ℕ} (groups : List (List Cut)) (batches batches' : List Batch) (refused refused' : List Refusal) (done : AccountedBeside label groups batches refused) (cuts : List Cut) (examinations : List Examination) (number : Numbering)
    → AllZip IsExaminationOf cuts examinations → batches' ≡ batches ++ cons_option (batch_of label (kept number (verdicts examinations))) [] → refused' ≡ refused ++ lost number (verdicts examinations)
    → AccountedBeside label (groups ++ cuts ∷ []) batches' refused'
accounted_more {label} groups batches batches' refused refused' done cuts examinations number each batches_are refused_are =
    let here = verdicts_behind number examinations in
    let so_far = verdicts_by done.numbers done.examinations in
    let size = done.one_each ∙ sym (zip_length groups done.examinations done.are_examinations) in
    let turn = by-more done.numbers done.examinations number examinations size in
    record {
      examinations = done.examinations ++ examinations ∷ [];
      are_examinations = zip-append (AllZip IsExaminationOf) groups (cuts ∷ []) done.examinations (examinations ∷ []) done.are_examinations (each, tt);
      numbers = done.numbers ++ number ∷ [];
      one_each = both_longer done.numbers groups done.one_each;
      yields = record {
        batches_are = batches_are ∙ ap (λ (l : List Batch). l ++ cons_option (batch_of label (candidates here)) []) done.yields.batches_are
            ∙ sym (ap (filter_map (batch_in label)) turn ∙ filter_map-append (batch_in label) so_far (here ∷ []));
        refused_are = refused_are ∙ ap (λ (l : List Refusal). l ++ refusals here) done.yields.refused_are
            ∙ sym (ap (flat_map refusals) turn ∙ flat_map-append refusals so_far (here ∷ []) ∙ ap (λ (l : List Refusal). flat_map refusals so_far ++ l) (append-nil (refusals here)));
      };
    }
  where
    both_longer : (ns : List Numbering) (gs : List (List Cut)) → length ns ≡ length gs → length (ns ++ number ∷ []) ≡ length (gs ++ cuts ∷ [])
    both_longer [] [] same = refl
    both_longer [] (g ∷ gs) same = absurd (omega (arith, same))
    both_longer (n ∷ ns) [] same = absurd (omega (arith, same))
    both_longer (n ∷ ns) (g ∷ gs) same = ap suc (both_longer ns gs (omega (arith, same)))

-- ---- receipts

module _ {J : Type 0} where
  receipts_more : (least : ℕ) (receipts : List (Receipt J)) (batches : List Batch) (receipt : Receipt J) (batch : Batch) (place : ℕ) → AreReceipts least receipts batches → IsReceipt receipt place batch
      → last_batches least receipts ≤ place → AreReceipts least (receipts ++ receipt ∷ []) (batches ++ batch ∷ [])
  receipts_more least [] [] receipt batch place are is above = (place, above, is, tt)
  receipts_more least [] (b ∷ batches) receipt batch place are is above = absurd are
  receipts_more least (r ∷ receipts) [] receipt batch place are is above = absurd are
  receipts_more least (r ∷ receipts) (b ∷ batches) receipt batch place are is above =
      let P : ℕ → Type 0 = λ n. last_batches n receipts ≤ place in
      (are.0, are.1, are.2, receipts_more (are.0 + 1) receipts batches receipt batch place are.3 is (subst P are.2.batches above))

-- ---- one more group of an import

all_cuts_more : (groups : List (List Cut)) (cuts : List Cut) → flat_map (λ (g : List Cut). g) (groups ++ cuts ∷ []) ≡ flat_map (λ (g : List Cut). g) groups ++ cuts
all_cuts_more groups cuts = flat_map-append (λ (g : List Cut). g) groups (cuts ∷ []) ∙ ap (λ (l : List Cut). flat_map (λ (g : List Cut). g) groups ++ l) (append-nil cuts)

module _ {J : Type 0} {label : List ℕ} (groups : List (List Cut)) (receipts receipts' : List (Receipt J)) (refused here : List Refusal) (clashes : List (List Batch)) (cuts : List Cut) (p : ProgressBeside label groups receipts refused clashes) where
  more_repeats : {answer : Option (Result (Receipt J) (CommitFault J))} → SettlesBeside label cuts here answer clashes → AreRepeats (flat_map (λ group. group) (groups ++ cuts ∷ [])) clashes (refused ++ here)
  more_repeats {answer} s =
      let all = flat_map (λ (g : List Cut). g) (groups ++ cuts ∷ []) in
      let before = flat_map (λ (g : List Cut). g) groups in
      let same = all_cuts_more groups cuts in
      let C : Cut → List Cut → Type 0 = λ cut l. Contains l cut in
      let P : Refusal → Type 0 = λ r. RepeatsBy all clashes r.place r.why in
      let earlier = all-repeats-grow before all clashes clashes refused (λ cut c. subst (C cut) (sym same) (Contains-append_left before cuts cut c)) (prefix-self clashes) p.repeats in
      let Q : List Refusal → Type 0 = λ l. AreRepeats cuts clashes l in
      let now = subst Q (sym s.refused_are) (repeats cuts clashes s.number s.examinations s.named s.are_examinations) in
      let mine = all-repeats-grow cuts all clashes clashes here (λ cut c. subst (C cut) (sym same) (Contains-append_right before cuts cut c)) (prefix-self clashes) now in
      All-append P refused here earlier mine

  step : {answer : Option (Result (Receipt J) (CommitFault J))} (s : SettlesBeside label cuts here answer clashes) (o : Option Batch) → batch_of label (kept s.number (verdicts s.examinations)) ≡ o → AreReceipts 0 receipts' (p.batches ++ cons_option o [])
      → ProgressBeside label (groups ++ cuts ∷ []) receipts' (refused ++ here) clashes
  step {answer} s o is are_receipts = record {
    batches = p.batches ++ cons_option o [];
    are_receipts = are_receipts;
    accounted = accounted_more groups p.batches (p.batches ++ cons_option o []) refused (refused ++ here) p.accounted cuts s.examinations s.number s.are_examinations
        (ap (λ (o : Option Batch). p.batches ++ cons_option o []) (sym is)) (ap (λ (l : List Refusal). refused ++ l) s.refused_are);
    repeats = more_repeats s;
  }

  pub none_beside : SettlesBeside {J = J} label cuts here None clashes → receipts' ≡ receipts → ProgressBeside label (groups ++ cuts ∷ []) receipts' (refused ++ here) clashes
  none_beside s is =
      let Q : List (Receipt J) → Type 0 = λ r. AreReceipts 0 r (p.batches ++ []) in
      let R : List Batch → Type 0 = λ b. AreReceipts 0 receipts b in
      step s None (ap (batch_of label) s.answered) (subst Q (sym is) (subst R (sym (append-nil p.batches)) p.are_receipts))

  pub one_beside : (receipt : Receipt J) → SettlesBeside label cuts here (Some (Ok receipt)) clashes → last_batches 0 receipts < receipt.batches → receipts' ≡ receipts ++ receipt ∷ []
      → ProgressBeside label (groups ++ cuts ∷ []) receipts' (refused ++ here) clashes
  one_beside receipt s above receipts_are =
      let a = s.answered in
      let is = a.2.is in
      let place : last_batches 0 receipts ≤ a.2.place = (let e = is.batches in omega (arith, e, above)) in
      let Q : List (Receipt J) → Type 0 = λ r. AreReceipts 0 r (p.batches ++ a.0.batch ∷ []) in
      step s (Some a.0.batch) a.1.batch (subst Q (sym receipts_are) (receipts_more 0 receipts p.batches receipt a.0.batch a.2.place p.are_receipts is place))

-- ---- a group that ended an import

no_batch : (b : Batch) → (let o : Option Batch = None in o) ≡ Some b → ⊥
no_batch b e = cc

some_candidates : (label : List ℕ) (cs : List Candidate) (batch : Batch) → batch_of label cs ≡ Some batch → cs ≢ []
some_candidates label [] batch is none = no_batch batch is
some_candidates label (c ∷ cs) batch is none = cons_none c cs none
  where
    cons_none : (c : Candidate) (cs : List Candidate) → c ∷ cs ≡ [] → ⊥
    cons_none c cs e = cc

sizes : (cs : List Candidate) → sum_by (λ (t : List ℕ). length t) (map (λ (c : Candidate). c.text) cs) ≡ sum_by (λ (c : Candidate). length c.text) cs
sizes cs = sum_by-map (λ (t : List ℕ). length t) (λ (c : Candidate). c.text) cs

over_not_within : (games bytes : ℕ) → is_over games bytes ≡ true → AreWithin games bytes → ⊥
over_not_within games bytes over within = by (nat_lt 262144 games) (nat_lt 536870912 bytes) refl refl over
  where
    by : (g b : Bool) → nat_lt 262144 games ≡ g → nat_lt 536870912 bytes ≡ b → (g || b) ≡ true → ⊥
    by true b gs bs e =
        let more : 262144 < games = grind (arith, nat_tests) in omega (arith, more, within.0)
    by false true gs bs e =
        let more : 536870912 < bytes = grind (arith, nat_tests) in omega (arith, more, within.1)
    by false false gs bs e = cc

full_left : {label : List ℕ} (note : List Batch) (games bytes : ℕ) (cs : List Candidate) (counted : Counted) → CountsUnder label cs counted → IsFullFor note games bytes counted → FindsNoRoom note games bytes cs
full_left {label} note games bytes cs counted counts full =
    let texts = batch_texts label cs counted.batch counts.batch in
    let more = texts_more note counted.batch ∙ ap (λ (l : List (List ℕ)). texts_of note ++ l) texts in
    let games_sum : game_count (note ++ counted.batch ∷ []) ≡ games + length cs =
    ap (λ (l : List (List ℕ)). length l) more ∙ length_both (texts_of note) cs ∙ ap (λ n. n + length cs) (sym full.games_are) in
    let bytes_sum : byte_count (note ++ counted.batch ∷ []) ≡ bytes + sum_by (λ (c : Candidate). length c.text) cs =
    ap (λ (l : List (List ℕ)). sum_by (λ (t : List ℕ). length t) l) more
    ∙ sum_by-append (λ (t : List ℕ). length t) (texts_of note) (map (λ (c : Candidate). c.text) cs)
    ∙ ap (λ n. byte_count note + n) (sizes cs)
    ∙ ap (λ n. n + sum_by (λ (c : Candidate). length c.text) cs) (sym full.bytes_are) in
    let P : ℕ → Type 0 = λ n. is_over n (byte_count (note ++ counted.batch ∷ [])) ≡ true in
    let Q : ℕ → Type 0 = λ n. is_over (games + length cs) n ≡ true in
    let over = subst Q bytes_sum (subst P games_sum full.passes) in
    record {
      games_are = full.games_are;
      bytes_are = full.bytes_are;
      stored = full.stored;
      are_stored = full.are_stored;
      new = All-from_recursion (λ (c : Candidate). numbers_of full.stored c.game.classes.id.bytes ≡ None) cs
          (kept_none (numbers_of full.stored) 0 cs (ap (clashes_from 0 (numbers_of full.stored)) (sym (counted_ids cs counted counts)) ∙ full.new));
      passes = over_not_within (games + length cs) (bytes + sum_by (λ (c : Candidate). length c.text) cs) over;
    }
  where
    length_both : (ts : List (List ℕ)) (cs : List Candidate) → length (ts ++ map (λ (c : Candidate). c.text) cs) ≡ length ts + length cs
    length_both ts cs = length-append ts (map (λ (c : Candidate). c.text) cs) ∙ ap (λ n. length ts + n) (length-map cs (λ (c : Candidate). c.text))

module _ {J : Type 0} where
  ends_beside : {label : List ℕ} (fault : CommitFault J) (end : End J) (cs : List Candidate) (counted : Counted) → CountsUnder label cs counted → AnswersTo (Err fault) counted → IsEndOf fault end → IsDecided {J = J} (Err fault) → EndsBeside label end cs
  ends_beside {label} (faults.Closed before after mark) end cs counted counts answers is never = subst (λ (e : End J). EndsBeside label e cs) (sym is) answers
  ends_beside {label} (faults.DiskFault before after mark) end cs counted counts answers is never =
      let M : Option Batch → Type 0 = λ failed. IsMark kinds.DiskFault before after failed mark in
      subst (λ (e : End J). EndsBeside label e cs) (sym is) (subst M (sym counts.batch) answers)
  ends_beside {label} (faults.Full games bytes note) end cs counted counts answers is never = subst (λ (e : End J). EndsBeside label e cs) (sym is) (full_left note games bytes cs counted counts answers)
  ends_beside {label} (faults.Clash handed pairs note) end cs counted counts answers is never = absurd never
  ends_beside {label} (faults.OutOfMemory out) end cs counted counts answers is never = absurd never

  pub stops_beside : {label : List ℕ} (cuts : List Cut) (clashes : List (List Batch)) (fault : CommitFault J) (stopped : Stopped J) → SettlesBeside label cuts stopped.refused.items (Some (Err fault)) clashes
      → IsDecided {J = J} (Err fault) → IsEndOf fault stopped.end → StopsBeside label cuts clashes stopped
  stops_beside {label} cuts clashes fault stopped s never is_end =
      let a = s.answered in
      let Q : List Refusal → Type 0 = λ l. AreRepeats cuts clashes l in
      record {
        left = kept s.number (verdicts s.examinations);
        judged = record {
          examinations = s.examinations;
          are_examinations = s.are_examinations;
          number = s.number;
          left_are = refl;
          refused_are = s.refused_are;
        };
        some_left = some_candidates label (kept s.number (verdicts s.examinations)) a.0.batch a.1.batch;
        ends = ends_beside fault stopped.end (kept s.number (verdicts s.examinations)) a.0 a.1 a.2 is_end never;
        repeats = subst Q (sym s.refused_are) (repeats cuts clashes s.number s.examinations s.named s.are_examinations);
      }

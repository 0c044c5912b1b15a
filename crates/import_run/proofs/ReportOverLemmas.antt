-- The report of an import in rounds of which nothing is in hand any more.
use Rattle.std.proofs.Common.{◌≡◌, ◌<◌, ℕ, List, [], ◌++◌, length, take, Option, None, Some, refl, sym, subst, arith}
use Rattle.std.proofs.lemmas.List.{append-nil}
use Rattle.outside.specs.Stream.{Stream}
use Rattle.explorer_model.specs.Cuts.{Cut, cuts}
use Rattle.explorer_model.specs.Journal.{input_limit}
use Rattle.pgn_cut.specs.Cutter.{cuts_of_rest}
use Rattle.ingest_desk.specs.declared.report.End.TheVariants as ends
use Rattle.ingest_desk.specs.declared.report.Report.{Report}
use Rattle.import_run.specs.declared.ahead.ReadEnd.{ReadEnd}
use Rattle.import_run.specs.declared.ahead.ReadEnd.TheVariants.{Ended, Failed}
use Rattle.import_run.specs.declared.open_import.OpenImport.{OpenImport}
use Rattle.import_run.specs.declared.text_group.TextGroup.{TextGroup}
use Rattle.import_run.specs.declared.underway.Over.TheVariants.{ReadFault, TooMuch, Whole}
use Rattle.import_run.specs.declared.underway.Underway.{Underway}
use Rattle.import_run.specs.Ahead.{CutAhead, HoldsBy}
use Rattle.import_run.specs.Committing.{Known, Store, store_of}
use Rattle.import_run.specs.EndingBeside.{ImportsBeside}
use Rattle.import_run.specs.Settled.{IsSettledSo}
use Rattle.import_run.specs.Taking.{CutSoFar, Imports, IsWholeBeside, IsWholeSettled, TakenAll}
use Rattle.import_run.specs.Underway.{IsOver}
use Rattle.import_run.proofs.ComeBesideLemmas.{imports_bound_beside, imports_fault_beside, imports_quietly_beside, whole_beside, whole_repeats}
use Rattle.import_run.proofs.ComeLemmas.{comes_cut_off, comes_whole}
use Rattle.import_run.proofs.LabelLemmas.{imports_as, imports_beside_as}
use Rattle.import_run.proofs.ReadLemmas.{imports_bound, imports_fault, imports_quietly}
use Rattle.import_run.proofs.UnderwayLemmas.{cut_over, taken_over}

module _ {J : Type 0} (before now : Stream) (state : Underway J) (report : Report J) (told : Option Store) (below : state.ahead.taken < input_limit) where
  -- ---- the stream has ended

  module _ (is : report.end ≡ ends.Whole) (receipts : report.receipts.items ≡ state.import.receipts.items) (refused : report.refused.items ≡ state.import.refused.items) (clashes : report.clashes.items ≡ state.import.clashes.items) where
    ended : (start : Option Store) (o : IsOver Whole before now start state told) → HoldsBy (Some Ended) before now o.closed o.stands.1.stream state.ahead
    ended start o = subst (λ (end : Option ReadEnd). HoldsBy end before now o.closed o.stands.1.stream state.ahead) o.stands.0 o.stands.1.holds

    done : (start : Option Store) (o : IsOver Whole before now start state told) → TakenAll start (cuts o.stands.1.stream) state.import told
    done start o = taken_over start o.closed state.import told o.stands.1.stream o.settled state.ahead.whole.items o.none (ended start o).2

    few : (start : Option Store) (o : IsOver Whole before now start state told) → length o.stands.1.stream < input_limit
    few start o = let long = o.stands.1.long in omega (arith, long, below)

    pub whole_over_beside : (start : Option Store) → IsOver Whole before now start state told → ImportsBeside state.import.group.label before now report
    whole_over_beside start o =
        imports_quietly_beside before now report o.stands.1.stream o.stands.1.reads (ended start o).0
        (whole_beside o.stands.1.stream now.left report state.import receipts clashes (few start o) refused start told is (ended start o).1 (done start o))

    pub whole_over : (start : Known) → IsOver Whole before now (Some (store_of start)) state told → Imports state.import.group.label start before now report told
    whole_over start o =
        imports_quietly start before now report told o.stands.1.stream o.stands.1.reads (ended (Some (store_of start)) o).0
        (comes_whole start report o.stands.1.stream now.left told state.import is receipts refused (ended (Some (store_of start)) o).1 (few (Some (store_of start)) o) (cuts o.stands.1.stream) refl (done (Some (store_of start)) o))
        (whole_beside o.stands.1.stream now.left report state.import receipts clashes (few (Some (store_of start)) o) refused (Some (store_of start)) told is (ended (Some (store_of start)) o).1
        (done (Some (store_of start)) o)).comes.reports.repeats

  -- ---- the stream was cut off

  module _ (own : OpenImport J) (hand : own.group ≡ state.ahead.group) (label : own.group.label ≡ state.import.group.label) (receipts : own.receipts.items ≡ state.import.receipts.items) (refused : own.refused.items ≡ state.import.refused.items)
      (clashes : own.clashes.items ≡ state.import.clashes.items)
      (settled : (start : Known) (stream : List ℕ) (told : Option Store) → CutSoFar (Some (store_of start)) stream (cuts_of_rest state.ahead.cutter) own told → IsWholeSettled own.group.label start stream report.receipts.items report.refused.items told)
      (beside : (start : Option Store) (stream : List ℕ) (told : Option Store) → CutSoFar start stream (cuts_of_rest state.ahead.cutter) own told → IsWholeBeside own.group.label stream report) where
    own_cut : (start : Option Store) (closed : List (List Cut)) (stream : List ℕ) → IsSettledSo start closed state.import told → state.ahead.whole.items ≡ [] → CutAhead closed stream (cuts_of_rest state.ahead.cutter) state.ahead.whole.items state.ahead.group
        → CutSoFar start stream (cuts_of_rest state.ahead.cutter) own told
    own_cut start closed stream s none c =
        cut_over start closed state.import told stream s state.ahead.whole.items (cuts_of_rest state.ahead.cutter) own none label receipts refused clashes
        (subst (λ (group : TextGroup). CutAhead closed stream (cuts_of_rest state.ahead.cutter) state.ahead.whole.items group) (sym hand) c)

    -- a read failed
    module _ (first last : ℕ) (is : report.end ≡ ends.ReadFault first last) where
      failed : (start : Option Store) (o : IsOver (ReadFault first last) before now start state told) → HoldsBy (Some (Failed first last)) before now o.closed o.stands.1.stream state.ahead
      failed start o = subst (λ (end : Option ReadEnd). HoldsBy end before now o.closed o.stands.1.stream state.ahead) o.stands.0 o.stands.1.holds

      pub fault_over_beside : (start : Option Store) → IsOver (ReadFault first last) before now start state told → ImportsBeside state.import.group.label before now report
      fault_over_beside start o =
          let h = o.stands.1 in
          let long = h.long in
          let f = failed start o in
          imports_beside_as label
          (imports_fault_beside before now report h.stream first last is f.0 f.1 f.2 h.reads (omega (arith, long, below)) (beside start h.stream told (own_cut start o.closed h.stream o.settled o.none f.3)))

      pub fault_over : (start : Known) → IsOver (ReadFault first last) before now (Some (store_of start)) state told → Imports state.import.group.label start before now report told
      fault_over start o =
          let h = o.stands.1 in
          let long = h.long in
          let f = failed (Some (store_of start)) o in
          let cut = own_cut (Some (store_of start)) o.closed h.stream o.settled o.none f.3 in
          imports_as label
          (imports_fault start before now report told h.stream first last is f.0 f.1 f.2 h.reads (comes_cut_off start report h.stream now.left told first last is (omega (arith, long, below)) (settled start h.stream told cut))
          (whole_repeats h.stream h.stream report (beside (Some (store_of start)) h.stream told cut) [] (append-nil h.stream)))

    -- the bound was reached
    module _ (bytes : ℕ) (is : report.end ≡ ends.TooMuch bytes) (bound : bytes ≡ input_limit) where
      held : (start : Option Store) (o : IsOver TooMuch before now start state told) → HoldsBy None before o.stands.2.0 o.closed o.stands.2.1.stream state.ahead
      held start o = subst (λ (end : Option ReadEnd). HoldsBy end before o.stands.2.0 o.closed o.stands.2.1.stream state.ahead) o.stands.0 o.stands.2.1.holds

      pub bound_over_beside : (start : Option Store) → IsOver TooMuch before now start state told → ImportsBeside state.import.group.label before now report
      bound_over_beside start o =
          let h = o.stands.2.1 in
          let long = h.long in
          let k = held start o in
          imports_beside_as label
          (imports_bound_beside before o.stands.2.0 now report h.stream 1 bytes o.stands.2.2.0 is h.reads k.0 o.stands.2.2.1 refl (omega (arith, long, o.stands.1)) bound (beside start h.stream told (own_cut start o.closed h.stream o.settled o.none k.1)))

      pub bound_over : (start : Known) → IsOver TooMuch before now (Some (store_of start)) state told → Imports state.import.group.label start before now report told
      bound_over start o =
          let h = o.stands.2.1 in
          let long = h.long in
          let k = held (Some (store_of start)) o in
          let cut = own_cut (Some (store_of start)) o.closed h.stream o.settled o.none k.1 in
          imports_as label
          (imports_bound start before o.stands.2.0 now report told h.stream 1 bytes o.stands.2.2.0 is h.reads k.0 o.stands.2.2.1 refl (omega (arith, long, o.stands.1)) bound (settled start h.stream told cut)
          (whole_repeats h.stream (h.stream ++ take 1 o.stands.2.2.0) report (beside (Some (store_of start)) h.stream told cut) (take 1 o.stands.2.2.0) refl))

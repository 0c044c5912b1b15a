-- Beside others too, nothing is stored of texts that have not ended, nor of a group that is not whole.
use Rattle.std.proofs.Common.{◌≡◌, ◌∙◌, inl, inr, ℕ, ◌<◌, List, [], ◌∷◌, ◌++◌, length, filter_map, Some, refl, sym, ap, subst, arith}
use Rattle.plain_laws.specs.Lists.{cons-nil}
use Rattle.explorer_model.specs.declared.archive.Batch.{Batch}
use Rattle.explorer_model.specs.declared.fault.Refusal.{Refusal}
use Rattle.explorer_model.specs.Cuts.{Cut}
use Rattle.explorer_model.specs.Imports.{AccountedBeside, AreExaminations, Candidate, Examination, Numbering, Verdict, batch_of, candidates, verdicts_by}
use Rattle.explorer_model.specs.Journal.{input_limit}
use Rattle.ingest_desk.specs.Reporting.{AreReceipts}
use Rattle.ingest_desk.specs.declared.receipt.Receipt.{Receipt}
use Rattle.ingest_desk.specs.declared.report.End.{End}
use Rattle.ingest_desk.specs.declared.report.End.TheVariants as ends
use Rattle.ingest_desk.specs.declared.report.Report.{Report}
use Rattle.import_run.specs.EndingBeside.{BreaksBeside, ComesBeside, LacksBeside, StandsBeside}
use Rattle.import_run.specs.SoFar.{AreGroupsSoFar, AreInGroups, ended_cuts}
use Rattle.import_run.proofs.GroupLemmas.{all_cuts, texts-append, texts_in, texts_whole}

front_none : {A : Type 0} (front back : List A) → front ++ back ≡ [] → front ≡ []
front_none [] back e = refl
front_none (x ∷ front) back e = absurd (cons-nil x (front ++ back) e)

some_behind : {A : Type 0} (front : List A) (x : A) (back : List A) → front ++ x ∷ back ≡ [] → ⊥
some_behind [] x back e = cons-nil x back e
some_behind (y ∷ front) x back e = cons-nil y (front ++ x ∷ back) e

-- fewer texts than a group has are no whole group
no_whole : (ended : List Cut) (whole : List (List Cut)) (hand : List Cut) → AreInGroups ended whole hand → texts_in ended < 512 → whole ≡ []
no_whole ended [] hand are few = refl
no_whole ended (group ∷ groups) hand are few =
    let many = texts_whole group are.each.0 in
    let all : texts_in ended ≡ texts_in ((group ++ all_cuts groups) ++ hand) = ap (λ (l : List Cut). texts_in l) are.all in
    absurd (omega (arith, few, many, all, texts-append (group ++ all_cuts groups) hand, texts-append group (all_cuts groups)))

-- of no groups there are no batches
no_batches : {label : List ℕ} (batches : List Batch) (refused : List Refusal) → AccountedBeside label [] batches refused → batches ≡ []
no_batches {label} batches refused a = by a.numbers a.examinations a.are_examinations a.yields.batches_are
  where
    by : (numbers : List Numbering) (examinations : List (List Examination)) → AreExaminations [] examinations
        → batches ≡ filter_map (λ (group : List Verdict). batch_of label (candidates group)) (verdicts_by numbers examinations) → batches ≡ []
    by [] [] are is = is
    by (n ∷ numbers) [] are is = is
    by numbers (e ∷ examinations) are is = absurd are

no_receipts : {J : Type 0} (receipts : List (Receipt J)) → AreReceipts 0 receipts [] → receipts ≡ []
no_receipts [] are = refl
no_receipts (r ∷ receipts) are = absurd are

pub unended : {label : List ℕ} {J : Type 0} (stream rest : List ℕ) (byte : ℕ) (report : Report J) → length stream < input_limit → texts_in (ended_cuts stream) < 512 → ComesBeside label stream (Some (byte ∷ rest)) report → report.receipts.items ≡ []
unended {label} {J} stream rest byte report below few comes =
    let P : List Batch → Type 0 = λ l. AreReceipts 0 report.receipts.items l in
    no_receipts report.receipts.items (subst P (by report.end comes.reports.batches comes.stands) comes.reports.are_receipts)
  where
    none_so_far : (so_far : List (List Cut)) → AreGroupsSoFar stream (Some (byte ∷ rest)) so_far → so_far ≡ []
    none_so_far so_far (inl (hand, are)) = no_whole (ended_cuts stream) so_far hand are few
    none_so_far so_far (inr (at_end, all)) = absurd (cons-nil byte rest at_end)

    of_none : (groups : List (List Cut)) (batches : List Batch) → groups ≡ [] → AccountedBeside label groups batches report.refused.items → batches ≡ []
    of_none groups batches none accounted =
        let A : List (List Cut) → Type 0 = λ l. AccountedBeside label l batches report.refused.items in
        no_batches batches report.refused.items (subst A none accounted)

    broken : (batches : List Batch) (left : List Candidate) → BreaksBeside label stream (Some (byte ∷ rest)) batches report.refused.items left → batches ≡ []
    broken batches left breaks = absurd (some_behind breaks.done breaks.next breaks.rest (sym breaks.so_far_is ∙ none_so_far breaks.so_far breaks.are_so_far))

    lacking : (batches : List Batch) → LacksBeside label stream (Some (byte ∷ rest)) batches report.refused.items → batches ≡ []
    lacking batches lacks = of_none lacks.done batches (front_none lacks.done lacks.rest (sym lacks.so_far_is ∙ none_so_far lacks.so_far lacks.are_so_far)) lacks.accounted

    by : (end : End J) (batches : List Batch) → StandsBeside label end stream (Some (byte ∷ rest)) batches report.refused.items → batches ≡ []
    by ends.Whole batches stands = absurd (cons-nil byte rest stands.0)
    by (ends.ReadFault before after) batches stands =
        let cut = stands.1 in of_none cut.whole batches (no_whole (ended_cuts stream) cut.whole cut.hand cut.in_groups few) cut.accounted
    by (ends.DiskFault before after mark) batches stands = broken batches stands.0 stands.1
    by (ends.Closed before after mark) batches stands = broken batches stands.0 stands.1
    by (ends.Full games bytes note) batches stands = broken batches stands.0 stands.1
    by (ends.TooMuch bytes) batches stands = let at = stands.1.at in absurd (omega (arith, at, below))
    by ends.OutOfMemory batches stands = lacking batches stands

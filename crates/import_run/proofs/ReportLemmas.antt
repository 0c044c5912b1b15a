-- What was settled beside others is what the import reports of the groups of its stream.
use Rattle.std.proofs.Common.{◌≡◌, ◌≢◌, ◌∙◌, ◌⊎◌, inl, inr, ℕ, ◌+◌, ◌<◌, ◌≤◌, List, [], ◌∷◌, ◌++◌, length, map, take, filter_map, Option, None, Some, refl, sym, ap, subst, append_assoc, length-append, arith, suc}
use Rattle.std.specs.Prelude.{slice_get}
use Rattle.std.specs.List.{AllByRecursion, AllZip, cons_option, flat_map}
use Rattle.std.proofs.lemmas.Grind.{flat_map-append}
use Rattle.std.proofs.lemmas.List.{append-nil, length-map}
use Rattle.std.proofs.lemmas.List.Sums.{sum_by-cons}
use Rattle.std.proofs.Math.Seq.{take-append_seam}
use Rattle.plain_laws.specs.Lists.{each-front, get-between}
use Rattle.explorer_model.specs.declared.archive.Batch.{Batch}
use Rattle.explorer_model.specs.declared.fault.Refusal.{Refusal}
use Rattle.explorer_model.specs.declared.fault.Why.TheVariants as causes
use Rattle.explorer_model.specs.Cuts.{Cut, Text, TooLong, Preamble}
use Rattle.explorer_model.specs.Imports.{AccountedBeside, AreExaminations, Candidate, Examination, IsExaminationOf, Numbering, Refused, Unread, Verdict, Accepted, batch_of, candidates, groups, refusals, verdict_behind, verdict_if_stored, verdicts, verdicts_behind, verdicts_by, verdicts_from}
use Rattle.explorer_model.specs.Journal.{game_count}
use Rattle.explorer_model.specs.Visits.{texts_of}
use Rattle.explorer_model.proofs.Lists.{zip-append}
use Rattle.ingest_desk.specs.Reporting.{AccountsUpTo, AreReceipts, BreaksAt, IsJudged, IsTooLong, LeftUnread, LeftUnreadIn, games_of}
use Rattle.ingest_desk.specs.declared.receipt.Receipt.{Receipt}
use Rattle.import_run.specs.Grouping.{unread_of}
use Rattle.import_run.specs.SoFar.{IsWhole}
use Rattle.import_run.proofs.AccountLemmas.{AreRefusedAs, all_refusals, alone_refused, behind_refused, candidates_more, no_candidates, no_text, none_or_some, refusals_more, unread_one}
use Rattle.import_run.proofs.CloseLemmas.{examined_length, verdicts_length}
use Rattle.import_run.proofs.GroupLemmas.{all_cuts, groups_closed, groups_first, groups_one, some_cuts, texts-append, texts-cons, texts_in, texts_whole}

-- ---- cuts without a text

abbrev pub NotPreamble : Cut → Type 0
NotPreamble (Preamble place) = ⊥
NotPreamble _ = Unit {0}

abbrev pub unread_in : List Cut → List Refusal
unread_in cuts = filter_map unread_of cuts

abbrev unexamined : List Cut → List Examination
unexamined cuts = map Unread (unread_in cuts)

refused_so : (cuts : List Cut) (examinations : List Examination) → texts_in cuts ≡ 0 → AllZip IsExaminationOf cuts examinations → AreRefusedAs examinations (unread_in cuts)
unfolding verdicts_from
refused_so [] [] none each = λ earlier. refl
refused_so [] (examination ∷ examinations) none each = absurd each
refused_so (cut ∷ cuts) [] none each = absurd each
refused_so (Text text ∷ cuts) (examination ∷ examinations) none each = absurd (no_text text cuts none)
refused_so (TooLong place long ∷ cuts) (examination ∷ examinations) none each =
    unread_one (record { place = place; why = causes.TooLong long }) examination examinations (unread_in cuts) each.0
    (refused_so cuts examinations (omega (arith, texts-cons (TooLong place long) cuts, none)) each.1)
refused_so (Preamble place ∷ cuts) (examination ∷ examinations) none each =
    unread_one (record { place = place; why = causes.Preamble }) examination examinations (unread_in cuts) each.0
    (refused_so cuts examinations (omega (arith, texts-cons (Preamble place) cuts, none)) each.1)

examined : (cuts : List Cut) → texts_in cuts ≡ 0 → AllZip IsExaminationOf cuts (unexamined cuts)
examined [] none = tt
examined (Text text ∷ cuts) none = absurd (no_text text cuts none)
examined (TooLong place long ∷ cuts) none = (refl, examined cuts (omega (arith, texts-cons (TooLong place long) cuts, none)))
examined (Preamble place ∷ cuts) none = (refl, examined cuts (omega (arith, texts-cons (Preamble place) cuts, none)))

too_long : (cuts : List Cut) → texts_in cuts ≡ 0 → AllByRecursion NotPreamble cuts → AllZip IsTooLong cuts (unread_in cuts)
too_long [] none first = tt
too_long (Text text ∷ cuts) none first = absurd (no_text text cuts none)
too_long (TooLong place long ∷ cuts) none first = (refl, too_long cuts (omega (arith, texts-cons (TooLong place long) cuts, none)) first.1)
too_long (Preamble place ∷ cuts) none first = absurd first.0

-- cuts of a group behind its last text
unread_behind : (group rest : List Cut) → IsWhole group → texts_in rest ≡ 0 → AllByRecursion NotPreamble rest → LeftUnread (group ++ rest) (unread_in rest)
unread_behind group rest whole none first = record {
  read = group;
  behind = rest;
  group_is = refl;
  whole = λ some. texts_whole group whole;
  too_long = too_long rest none first;
}

nothing_behind : (group : List Cut) → LeftUnread group []
nothing_behind group = record {
  read = group;
  behind = [];
  group_is = sym (append-nil group);
  whole = λ some. absurd (some refl);
  too_long = tt;
}

nothing_behind_all : (gs : List (List Cut)) → LeftUnreadIn gs []
nothing_behind_all [] = refl
nothing_behind_all (g ∷ []) = nothing_behind g
nothing_behind_all (g ∷ next ∷ rest) = nothing_behind_all (next ∷ rest)

unread_last : (gs : List (List Cut)) (group : List Cut) (unread : List Refusal) → LeftUnread group unread → LeftUnreadIn (gs ++ group ∷ []) unread
unread_last [] group unread left = left
unread_last (g ∷ []) group unread left = left
unread_last (g ∷ next ∷ gs) group unread left = unread_last (next ∷ gs) group unread left

-- ---- a last group without a text, and one with such cuts behind it

abbrev batch_in : List ℕ → List Verdict → Option Batch
batch_in label group = batch_of label (candidates group)

abbrev batches_by : List ℕ → List Numbering → List (List Examination) → List Batch
batches_by label numbers examinations = filter_map (batch_in label) (verdicts_by numbers examinations)

abbrev refused_by : List Numbering → List (List Examination) → List Refusal
refused_by numbers examinations = flat_map refusals (verdicts_by numbers examinations)

-- other groups that are examined so have the same batches, and these refusals more
record HasMore (label : List ℕ) (gs : List (List Cut)) (batches : List Batch) (refused : List Refusal) : Type 0 where
  others : List (List Examination)
  are : AreExaminations gs others
  numbers : List Numbering
  one_each : length numbers ≡ length gs
  batches_are : batches_by label numbers others ≡ batches
  refused_are : refused_by numbers others ≡ refused

of_more : {label : List ℕ} (gs : List (List Cut)) (batches : List Batch) (refused : List Refusal) → HasMore label gs batches refused → AccountedBeside label gs batches refused
of_more {label} gs batches refused m = record {
  examinations = m.others;
  are_examinations = m.are;
  numbers = m.numbers;
  one_each = m.one_each;
  yields = record { batches_are = sym m.batches_are; refused_are = sym m.refused_are };
}

one_behind : (batch : Option Batch) (batches batches' : List Batch) → batches ≡ batches' → cons_option batch batches ≡ cons_option batch batches'
one_behind batch batches batches' same = ap (λ (l : List Batch). cons_option batch l) same

-- the last group goes on with cuts without a text
with_behind : (label : List ℕ) (gs : List (List Cut)) (group rest : List Cut) (examinations : List (List Examination)) (numbers : List Numbering) → texts_in rest ≡ 0 → AreExaminations (gs ++ group ∷ []) examinations
    → length numbers ≡ length (gs ++ group ∷ []) → HasMore label (gs ++ (group ++ rest) ∷ []) (batches_by label numbers examinations) (refused_by numbers examinations ++ unread_in rest)
with_behind label [] group rest [] numbers none each long = absurd each
with_behind label [] group rest (first ∷ second ∷ examinations) numbers none each long = absurd each.1
with_behind label [] group rest (first ∷ []) [] none each long = absurd (omega (arith, long))
with_behind label [] group rest (first ∷ []) (n ∷ m ∷ numbers) none each long = absurd (omega (arith, long))
with_behind label [] group rest (first ∷ []) (n ∷ []) none each long =
    let more = examined rest none in
    let here = verdicts_behind n first in
    let both : verdicts_behind n (first ++ unexamined rest) ≡ here ++ map Refused (unread_in rest) = behind_refused n first (unexamined rest) (unread_in rest) (refused_so rest (unexamined rest) none more) in
    record {
      others = (first ++ unexamined rest) ∷ [];
      are = (zip-append IsExaminationOf group rest first (unexamined rest) each.0 more, tt);
      numbers = n ∷ [];
      one_each = refl;
      batches_are = ap (λ (l : List Candidate). cons_option (batch_of label l) []) (ap candidates both ∙ candidates_more here (unread_in rest));
      refused_are = append-nil (refusals (verdicts_behind n (first ++ unexamined rest))) ∙ ap refusals both ∙ refusals_more here (unread_in rest)
          ∙ ap (λ (l : List Refusal). l ++ unread_in rest) (sym (append-nil (refusals here)));
    }
with_behind label (g ∷ gs) group rest [] numbers none each long = absurd each
with_behind label (g ∷ gs) group rest (first ∷ examinations) [] none each long = absurd (omega (arith, long))
with_behind label (g ∷ gs) group rest (first ∷ examinations) (n ∷ numbers) none each long =
    let later = with_behind label gs group rest examinations numbers none each.1 (omega (arith, long)) in
    let here = verdicts_behind n first in
    record {
      others = first ∷ later.others;
      are = (each.0, later.are);
      numbers = n ∷ later.numbers;
      one_each = ap suc later.one_each;
      batches_are = one_behind (batch_in label here) (batches_by label later.numbers later.others) (batches_by label numbers examinations) later.batches_are;
      refused_are = ap (λ (l : List Refusal). refusals here ++ l) later.refused_are ∙ sym (append_assoc (refusals here) (refused_by numbers examinations) (unread_in rest));
    }

-- a last group without a text is left out
record HasLess (label : List ℕ) (gs : List (List Cut)) (batches : List Batch) (refused unread : List Refusal) : Type 0 where
  before : List Refusal
  has : HasMore label gs batches before
  refused_is : refused ≡ before ++ unread

without_last : (label : List ℕ) (gs : List (List Cut)) (hand : List Cut) (examinations : List (List Examination)) (numbers : List Numbering) → texts_in hand ≡ 0 → AreExaminations (gs ++ hand ∷ []) examinations
    → length numbers ≡ length (gs ++ hand ∷ []) → HasLess label gs (batches_by label numbers examinations) (refused_by numbers examinations) (unread_in hand)
without_last label [] hand [] numbers none each long = absurd each
without_last label [] hand (first ∷ second ∷ examinations) numbers none each long = absurd each.1
without_last label [] hand (first ∷ []) [] none each long = absurd (omega (arith, long))
without_last label [] hand (first ∷ []) (n ∷ m ∷ numbers) none each long = absurd (omega (arith, long))
without_last label [] hand (first ∷ []) (n ∷ []) none each long =
    let last = alone_refused n first (unread_in hand) (refused_so hand first none each.0) in
    record {
      before = [];
      has = record {
        others = [];
        are = tt;
        numbers = [];
        one_each = refl;
        batches_are = sym (ap (λ (l : List Candidate). cons_option (batch_of label l) []) (ap candidates last ∙ no_candidates (unread_in hand)));
        refused_are = refl;
      };
      refused_is = append-nil (refusals (verdicts_behind n first)) ∙ ap refusals last ∙ all_refusals (unread_in hand);
    }
without_last label (g ∷ gs) hand [] numbers none each long = absurd each
without_last label (g ∷ gs) hand (first ∷ examinations) [] none each long = absurd (omega (arith, long))
without_last label (g ∷ gs) hand (first ∷ examinations) (n ∷ numbers) none each long =
    let later = without_last label gs hand examinations numbers none each.1 (omega (arith, long)) in
    let here = verdicts_behind n first in
    record {
      before = refusals here ++ later.before;
      has = record {
        others = first ∷ later.has.others;
        are = (each.0, later.has.are);
        numbers = n ∷ later.has.numbers;
        one_each = ap suc later.has.one_each;
        batches_are = one_behind (batch_in label here) (batches_by label later.has.numbers later.has.others) (batches_by label numbers examinations) later.has.batches_are;
        refused_are = ap (λ (l : List Refusal). refusals here ++ l) later.has.refused_are;
      };
      refused_is = ap (λ (l : List Refusal). refusals here ++ l) later.refused_is ∙ sym (append_assoc (refusals here) later.before (unread_in hand));
    }

pub beside_more : {label : List ℕ} (gs : List (List Cut)) (group rest : List Cut) (batches : List Batch) (refused : List Refusal) → texts_in rest ≡ 0 → AccountedBeside label (gs ++ group ∷ []) batches refused
    → AccountedBeside label (gs ++ (group ++ rest) ∷ []) batches (refused ++ unread_in rest)
beside_more {label} gs group rest batches refused none a =
    let m = with_behind label gs group rest a.examinations a.numbers none a.are_examinations a.one_each in
    let P : List Batch → Type 0 = λ l. AccountedBeside label (gs ++ (group ++ rest) ∷ []) l (refused ++ unread_in rest) in
    let Q : List Refusal → Type 0 = λ l. AccountedBeside label (gs ++ (group ++ rest) ∷ []) (batches_by label a.numbers a.examinations) (l ++ unread_in rest) in
    subst P (sym a.yields.batches_are) (subst Q (sym a.yields.refused_are) (of_more (gs ++ (group ++ rest) ∷ []) _ _ m))

pub record WithoutLast (label : List ℕ) (gs : List (List Cut)) (batches : List Batch) (refused unread : List Refusal) : Type 0 where
  pub before : List Refusal
  pub accounted : AccountedBeside label gs batches before
  pub is : refused ≡ before ++ unread

pub beside_less : {label : List ℕ} (gs : List (List Cut)) (hand : List Cut) (batches : List Batch) (refused : List Refusal) → texts_in hand ≡ 0 → AccountedBeside label (gs ++ hand ∷ []) batches refused
    → WithoutLast label gs batches refused (unread_in hand)
beside_less {label} gs hand batches refused none a =
    let l = without_last label gs hand a.examinations a.numbers none a.are_examinations a.one_each in
    let P : List Batch → Type 0 = λ b. AccountedBeside label gs b l.before in
    record {
      before = l.before;
      accounted = subst P (sym a.yields.batches_are) (of_more gs _ _ l.has);
      is = a.yields.refused_are ∙ l.refused_is;
    }

-- ---- the groups of closed ones and of what stands behind them

record EndsIn (gs : List (List Cut)) : Type 0 where
  before : List (List Cut)
  last : List Cut
  is : gs ≡ before ++ last ∷ []

last_of : (g : List Cut) (gs : List (List Cut)) → EndsIn (g ∷ gs)
last_of g [] = record { before = []; last = g; is = refl }
last_of g (h ∷ gs) =
    let later = last_of h gs in
    record { before = g ∷ later.before; last = later.last; is = ap (λ (l : List (List Cut)). g ∷ l) later.is }

each_last : (gs : List (List Cut)) (group : List Cut) → AllByRecursion IsWhole (gs ++ group ∷ []) → IsWhole group
each_last [] group each = each.0
each_last (g ∷ gs) group each = each_last gs group each.1

pub all_cuts-last : (gs : List (List Cut)) (group : List Cut) → all_cuts (gs ++ group ∷ []) ≡ all_cuts gs ++ group
all_cuts-last gs group = flat_map-append (λ (g : List Cut). g) gs (group ∷ []) ∙ ap (λ (l : List Cut). all_cuts gs ++ l) (append-nil group)

-- cuts without a text belong to the last of the whole groups before them
groups_last : (gs : List (List Cut)) (group rest : List Cut) → AllByRecursion IsWhole gs → IsWhole group → texts_in rest ≡ 0 → groups (all_cuts (gs ++ group ∷ []) ++ rest) ≡ gs ++ (group ++ rest) ∷ []
groups_last gs group rest each whole none =
    let texts : texts_in (group ++ rest) ≡ 512 = omega (arith, texts-append group rest, texts_whole group whole, none) in
    ap (λ (l : List Cut). groups (l ++ rest)) (all_cuts-last gs group)
    ∙ ap groups (append_assoc (all_cuts gs) group rest)
    ∙ groups_closed gs (group ++ rest) each (omega (arith, texts))
    ∙ ap (λ (l : List (List Cut)). gs ++ l) (groups_one (group ++ rest) (some_cuts (group ++ rest) (omega (arith, texts))) (omega (arith, texts)))

-- some cut stands in a whole group
pub some_whole : (group : List Cut) → IsWhole group → 0 < length group
some_whole group whole = some_cuts group (omega (arith, texts_whole group whole))

-- ---- an import that ended early

-- the first of the groups are accounted, as far as they were read
pub record AccountedFront (label : List ℕ) (gs : List (List Cut)) (batches : List Batch) (refused : List Refusal) : Type 0 where
  pub finished : ℕ
  pub unread : List Refusal
  pub left_unread : LeftUnreadIn (take finished gs) unread
  pub accounts : AccountsUpTo label finished gs batches (refused ++ unread)

front_of : {label : List ℕ} (gs more : List (List Cut)) (all : List (List Cut)) (batches : List Batch) (refused unread : List Refusal) → all ≡ gs ++ more → LeftUnreadIn gs unread → AccountedBeside label gs batches (refused ++ unread)
    → AccountedFront label all batches refused
front_of {label} gs more all batches refused unread is left a =
    let same : take (length gs) all ≡ gs = ap (λ (l : List (List Cut)). take (length gs) l) is ∙ take-append_seam gs more in
    let long = ap (λ (l : List (List Cut)). length l) is in
    let P : List (List Cut) → Type 0 = λ l. LeftUnreadIn l unread in
    let Q : List (List Cut) → Type 0 = λ l. AccountedBeside label l batches (refused ++ unread) in
    record {
      finished = length gs;
      unread = unread;
      left_unread = subst P (sym same) left;
      accounts = record { within = omega (arith, long, length-append gs more); accounted = subst Q (sym same) a };
    }

-- all groups are accounted
pub front_of_all : {label : List ℕ} (all : List (List Cut)) (batches : List Batch) (refused : List Refusal) → AccountedBeside label all batches refused → AccountedFront label all batches refused
front_of_all {label} all batches refused a =
    let P : List Refusal → Type 0 = λ l. AccountedBeside label all batches l in
    front_of all [] all batches refused [] (sym (append-nil all)) (nothing_behind_all all) (subst P (sym (append-nil refused)) a)

-- closed groups are the first of the groups of their cuts and of those behind them
pub accounted_front : {label : List ℕ} (closed : List (List Cut)) (rest : List Cut) (batches : List Batch) (refused : List Refusal) → AllByRecursion IsWhole closed → (0 < length (all_cuts closed) → AllByRecursion NotPreamble rest)
    → AccountedBeside label closed batches refused → AccountedFront label (groups (all_cuts closed ++ rest)) batches refused
accounted_front {label} closed rest batches refused each first a = by_texts (none_or_some (texts_in rest))
  where
    P : List Refusal → Type 0
    P l = AccountedBeside label closed batches l

    by_last : (closed : List (List Cut)) → AllByRecursion IsWhole closed → (0 < length (all_cuts closed) → AllByRecursion NotPreamble rest) → AccountedBeside label closed batches refused → texts_in rest ≡ 0
        → AccountedFront label (groups (all_cuts closed ++ rest)) batches refused
    by_last [] each first a none =
        let Q : List Refusal → Type 0 = λ l. AccountedBeside label [] batches l in
        front_of [] (groups rest) (groups rest) batches refused [] refl refl (subst Q (sym (append-nil refused)) a)
    by_last (g ∷ gs) each first a none =
        let l = last_of g gs in
        let all : AllByRecursion IsWhole (l.before ++ l.last ∷ []) = subst (λ (x : List (List Cut)). AllByRecursion IsWhole x) l.is each in
        let whole = each_last l.before l.last all in
        let is : groups (all_cuts (g ∷ gs) ++ rest) ≡ (l.before ++ (l.last ++ rest) ∷ []) ++ [] =
        ap (λ (x : List (List Cut)). groups (all_cuts x ++ rest)) l.is ∙ groups_last l.before l.last rest (each-front IsWhole l.before (l.last ∷ []) all) whole none ∙ sym (append-nil (l.before ++ (l.last ++ rest) ∷ [])) in
        let no_preamble = first (let some = some_whole g each.0 in omega (arith, some, length-append g (all_cuts gs))) in
        let acc : AccountedBeside label (l.before ++ l.last ∷ []) batches refused = subst (λ (x : List (List Cut)). AccountedBeside label x batches refused) l.is a in
        front_of (l.before ++ (l.last ++ rest) ∷ []) [] (groups (all_cuts (g ∷ gs) ++ rest)) batches refused (unread_in rest) is
        (unread_last l.before (l.last ++ rest) (unread_in rest) (unread_behind l.last rest whole none no_preamble))
        (beside_more l.before l.last rest batches refused none acc)

    by_texts : (texts_in rest ≡ 0) ⊎ (0 < texts_in rest) → AccountedFront label (groups (all_cuts closed ++ rest)) batches refused
    by_texts (inl none) = by_last closed each first a none
    by_texts (inr some) = front_of closed (groups rest) (groups (all_cuts closed ++ rest)) batches refused [] (groups_closed closed rest each some) (nothing_behind_all closed) (subst P (sym (append-nil refused)) a)

-- ---- a whole import

-- a group in hand without a text, and nothing before it
only_hand : {label : List ℕ} (hand : List Cut) (batches : List Batch) (refused : List Refusal) → texts_in hand ≡ 0 → AccountedBeside label (hand ∷ []) batches refused → AccountedBeside label (groups hand) batches refused
unfolding groups
only_hand {label} [] batches refused none a =
    let l = beside_less [] [] batches refused none a in
    let P : List Refusal → Type 0 = λ x. AccountedBeside label [] batches x in
    subst P (sym (l.is ∙ append-nil l.before)) l.accounted
only_hand {label} (cut ∷ hand) batches refused none a =
    let P : List (List Cut) → Type 0 = λ x. AccountedBeside label x batches refused in
    subst P (sym (groups_one (cut ∷ hand) (omega arith) (omega (arith, none)))) a

-- closed groups and the one in hand at the end are the groups of their cuts
pub accounted_whole : {label : List ℕ} (closed : List (List Cut)) (hand : List Cut) (batches : List Batch) (refused : List Refusal) → AllByRecursion IsWhole closed → texts_in hand ≤ 512
    → AccountedBeside label (closed ++ hand ∷ []) batches refused → AccountedBeside label (groups (all_cuts closed ++ hand)) batches refused
accounted_whole {label} closed hand batches refused each few a = by_texts (none_or_some (texts_in hand))
  where
    by_last : (closed : List (List Cut)) → AllByRecursion IsWhole closed → AccountedBeside label (closed ++ hand ∷ []) batches refused → texts_in hand ≡ 0 → AccountedBeside label (groups (all_cuts closed ++ hand)) batches refused
    by_last [] each a none = only_hand hand batches refused none a
    by_last (g ∷ gs) each a none =
        let l = last_of g gs in
        let all : AllByRecursion IsWhole (l.before ++ l.last ∷ []) = subst (λ (x : List (List Cut)). AllByRecursion IsWhole x) l.is each in
        let is : groups (all_cuts (g ∷ gs) ++ hand) ≡ l.before ++ (l.last ++ hand) ∷ [] =
        ap (λ (x : List (List Cut)). groups (all_cuts x ++ hand)) l.is ∙ groups_last l.before l.last hand (each-front IsWhole l.before (l.last ∷ []) all) (each_last l.before l.last all) none in
        let less = beside_less (g ∷ gs) hand batches refused none a in
        let acc : AccountedBeside label (l.before ++ l.last ∷ []) batches less.before = subst (λ (x : List (List Cut)). AccountedBeside label x batches less.before) l.is less.accounted in
        let P : List Refusal → Type 0 = λ x. AccountedBeside label (l.before ++ (l.last ++ hand) ∷ []) batches x in
        let Q : List (List Cut) → Type 0 = λ x. AccountedBeside label x batches refused in
        subst Q (sym is) (subst P (sym less.is) (beside_more l.before l.last hand batches less.before none acc))

    by_texts : (texts_in hand ≡ 0) ⊎ (0 < texts_in hand) → AccountedBeside label (groups (all_cuts closed ++ hand)) batches refused
    by_texts (inl none) = by_last closed each a none
    by_texts (inr some) =
        let Q : List (List Cut) → Type 0 = λ x. AccountedBeside label x batches refused in
        subst Q (sym (groups_closed closed hand each some ∙ ap (λ (l : List (List Cut)). closed ++ l) (groups_one hand (some_cuts hand some) few))) a

-- ---- a group that ended an import

-- what is left of a group stays where cuts without a text stand behind it
judged_more : (group rest : List Cut) (left : List Candidate) (hand : List Refusal) → texts_in rest ≡ 0 → IsJudged group left hand → IsJudged (group ++ rest) left (hand ++ unread_in rest)
judged_more group rest left hand none j =
    let more = examined rest none in
    let both = behind_refused j.number j.examinations (unexamined rest) (unread_in rest) (refused_so rest (unexamined rest) none more) in
    let here = verdicts_behind j.number j.examinations in
    record {
      examinations = j.examinations ++ unexamined rest;
      are_examinations = zip-append IsExaminationOf group rest j.examinations (unexamined rest) j.are_examinations more;
      number = j.number;
      left_are = j.left_are ∙ sym (ap candidates both ∙ candidates_more here (unread_in rest));
      refused_are = ap (λ (l : List Refusal). l ++ unread_in rest) j.refused_are ∙ sym (ap refusals both ∙ refusals_more here (unread_in rest));
    }

module _ {label : List ℕ} (gs : List (List Cut)) (closed : List (List Cut)) (group : List Cut) (batches : List Batch) (before hand refused : List Refusal) (left : List Candidate) (a : AccountedBeside label closed batches before)
    (j : IsJudged group left hand) (some : left ≢ []) (refused_is : refused ≡ before ++ hand) where
  breaks : (rest : List Cut) (more : List (List Cut)) → gs ≡ closed ++ (group ++ rest) ∷ more → texts_in rest ≡ 0 → LeftUnread (group ++ rest) (unread_in rest) → BreaksAt label gs batches refused left
  breaks rest more is none unread =
      let front : take (length closed) gs ≡ closed = ap (λ (l : List (List Cut)). take (length closed) l) is ∙ take-append_seam closed ((group ++ rest) ∷ more) in
      let long = ap (λ (l : List (List Cut)). length l) is in
      let Q : List (List Cut) → Type 0 = λ l. AccountedBeside label l batches before in
      record {
        finished = length closed;
        before = before;
        accounts = record { within = omega (arith, long, length-append closed ((group ++ rest) ∷ more)); accounted = subst Q (sym front) a };
        group = group ++ rest;
        in_hand = ap (λ (l : List (List Cut)). slice_get l (length closed)) is ∙ get-between closed (group ++ rest) more;
        hand = hand ++ unread_in rest;
        judged = judged_more group rest left hand none j;
        some_left = some;
        unread = unread_in rest;
        left_unread = unread;
        refused_are = ap (λ (l : List Refusal). l ++ unread_in rest) refused_is ∙ append_assoc before hand (unread_in rest);
      }

  -- the group is one of the stream
  breaks_here : (more : List (List Cut)) → gs ≡ closed ++ group ∷ more → BreaksAt label gs batches refused left
  breaks_here more is =
      let P : List Cut → Type 0 = λ g. LeftUnread g [] in
      breaks [] more (is ∙ ap (λ (g : List Cut). closed ++ g ∷ more) (sym (append-nil group))) refl (subst P (sym (append-nil group)) (nothing_behind group))

-- a whole group of cuts ended the import, and other cuts stand behind it
pub breaks_within : {label : List ℕ} (closed : List (List Cut)) (group rest : List Cut) (batches : List Batch) (before hand refused : List Refusal) (left : List Candidate) → AccountedBeside label closed batches before → IsJudged group left hand → left ≢ []
    → refused ≡ before ++ hand → AllByRecursion IsWhole closed → IsWhole group → AllByRecursion NotPreamble rest → BreaksAt label (groups (all_cuts closed ++ (group ++ rest))) batches refused left
breaks_within {label} closed group rest batches before hand refused left a j some refused_is each whole first = by_texts (none_or_some (texts_in rest))
  where
    gs : List (List Cut)
    gs = groups (all_cuts closed ++ (group ++ rest))

    texts : texts_in (group ++ rest) ≡ 512 + texts_in rest
    texts = omega (arith, texts-append group rest, texts_whole group whole)

    behind : gs ≡ closed ++ groups (group ++ rest)
    behind = groups_closed closed (group ++ rest) each (omega (arith, texts))

    by_texts : (texts_in rest ≡ 0) ⊎ (0 < texts_in rest) → BreaksAt label gs batches refused left
    by_texts (inl none) =
        let one = groups_one (group ++ rest) (some_cuts (group ++ rest) (omega (arith, texts))) (omega (arith, texts, none)) in
        breaks gs closed group batches before hand refused left a j some refused_is rest [] (behind ∙ ap (λ (l : List (List Cut)). closed ++ l) one) none (unread_behind group rest whole none first)
    by_texts (inr more) =
        breaks_here gs closed group batches before hand refused left a j some refused_is (groups rest) (behind ∙ ap (λ (l : List (List Cut)). closed ++ l) (groups_first group rest whole more))

-- the last group ended the import; some of its texts were left
pub breaks_last : {label : List ℕ} (closed : List (List Cut)) (group : List Cut) (batches : List Batch) (before hand refused : List Refusal) (left : List Candidate) → AccountedBeside label closed batches before → IsJudged group left hand → left ≢ []
    → refused ≡ before ++ hand → AllByRecursion IsWhole closed → texts_in group ≤ 512 → BreaksAt label (groups (all_cuts closed ++ group)) batches refused left
breaks_last {label} closed group batches before hand refused left a j some refused_is each few = by_texts (none_or_some (texts_in group))
  where
    by_texts : (texts_in group ≡ 0) ⊎ (0 < texts_in group) → BreaksAt label (groups (all_cuts closed ++ group)) batches refused left
    by_texts (inl none) =
        let no = alone_refused j.number j.examinations (unread_in group) (refused_so group j.examinations none j.are_examinations) in
        absurd (some (j.left_are ∙ ap candidates no ∙ no_candidates (unread_in group)))
    by_texts (inr texts) =
        breaks_here (groups (all_cuts closed ++ group)) closed group batches before hand refused left a j some refused_is []
        (groups_closed closed group each texts ∙ ap (λ (l : List (List Cut)). closed ++ l) (groups_one group (some_cuts group texts) few))

-- ---- how many games are stored

kept_few : (number : Numbering) (vs : List Verdict) → length (candidates (map (verdict_behind number) vs)) ≤ length vs
kept_few number [] = omega arith
kept_few number (Refused refusal ∷ vs) = let rest = kept_few number vs in omega (arith, rest)
kept_few number (Accepted c ∷ vs) = by (number c.game.classes.id.bytes) (kept_few number vs)
  where
    by : (o : Option ℕ) → length (candidates (map (verdict_behind number) vs)) ≤ length vs → length (candidates (verdict_if_stored o c ∷ map (verdict_behind number) vs)) ≤ suc (length vs)
    by None rest = omega (arith, rest)
    by (Some n) rest = omega (arith, rest)

batch_few : (label : List ℕ) (cs : List Candidate) (batches : List Batch) → game_count (cons_option (batch_of label cs) batches) ≡ length cs + game_count batches
batch_few label [] batches = omega arith
batch_few label (c ∷ cs) batches =
    length-append (map (λ (c : Candidate). c.text) (c ∷ cs)) (texts_of batches) ∙ ap (λ n. n + game_count batches) (length-map (c ∷ cs) (λ (c : Candidate). c.text))

games_few : (label : List ℕ) (gs : List (List Cut)) (examinations : List (List Examination)) (numbers : List Numbering) → AreExaminations gs examinations → game_count (batches_by label numbers examinations) ≤ length (all_cuts gs)
games_few label gs [] [] each = omega arith
games_few label gs [] (n ∷ numbers) each = omega arith
games_few label gs (e ∷ examinations) [] each = omega arith
games_few label [] (e ∷ examinations) (n ∷ numbers) each = absurd each
games_few label (g ∷ gs) (e ∷ examinations) (n ∷ numbers) each =
    let later = games_few label gs examinations numbers each.1 in
    let here = kept_few n (verdicts e) in
    omega (arith, later, here, batch_few label (candidates (verdicts_behind n e)) (batches_by label numbers examinations), verdicts_length [] e, examined_length g e each.0, length-append g (all_cuts gs))

receipts_count : {J : Type 0} (least : ℕ) (receipts : List (Receipt J)) (batches : List Batch) → AreReceipts least receipts batches → games_of receipts ≡ game_count batches
receipts_count least [] [] are = refl
receipts_count least [] (b ∷ batches) are = absurd are
receipts_count least (r ∷ receipts) [] are = absurd are
receipts_count least (r ∷ receipts) (b ∷ batches) are =
    sym (omega (arith, sum_by-cons (λ (receipt : Receipt _). receipt.games) r receipts, are.2.games, receipts_count (are.0 + 1) receipts batches are.3, length-append b.texts (texts_of batches)))

-- the games that are stored are no more than the cuts of their groups
pub games_within : {label : List ℕ} {J : Type 0} (gs : List (List Cut)) (receipts : List (Receipt J)) (batches : List Batch) (refused : List Refusal) → AreReceipts 0 receipts batches → AccountedBeside label gs batches refused
    → games_of receipts ≤ length (all_cuts gs)
games_within {label} gs receipts batches refused are a =
    let count = receipts_count 0 receipts batches are in
    let same = ap game_count a.yields.batches_are in
    let few = games_few label gs a.examinations a.numbers a.are_examinations in
    omega (arith, count, same, few)

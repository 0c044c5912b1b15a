-- Whole groups and the group in hand, settled one after another, are the groups of their cuts.
use Rattle.std.proofs.Common.{◌≡◌, ℕ, ◌<◌, ◌≤◌, List, [], ◌∷◌, ◌++◌, map, filter_map, refl, sym, ap, subst, ◌∙◌, append_assoc, inl, inr, ◌⊎◌, arith, zero, suc}
use Rattle.std.specs.List.{AllByRecursion, AllZip, flat_map, cons_option}
use Rattle.std.proofs.lemmas.List.{append-nil, map-append}
use Rattle.std.proofs.lemmas.List.Elements.{filter_map-append}
use Rattle.explorer_model.specs.declared.archive.Batch.{Batch}
use Rattle.explorer_model.specs.declared.archive.Game.{Game}
use Rattle.explorer_model.specs.declared.archive.Placed.{Placed}
use Rattle.explorer_model.specs.declared.fault.Refusal.{Refusal}
use Rattle.explorer_model.specs.declared.fault.Why.TheVariants as causes
use Rattle.explorer_model.specs.Cuts.{Cut, Text, TooLong, Preamble}
use Rattle.explorer_model.specs.Imports.{AreExaminations, Candidate, Examination, IsExaminationOf, Numbering, Refused, Unread, Verdict, and_candidate, batch_of, candidate_of, candidates, groups, numbers_of, refusal_of, refusals, verdict_behind, verdict_of, verdicts, verdicts_behind, verdicts_from, verdicts_in_turn}
use Rattle.explorer_model.proofs.Lists.{zip-append}
use Rattle.import_run.specs.Progress.{HasNoCandidate, and_games}
use Rattle.import_run.specs.SoFar.{IsWhole}
use Rattle.import_run.proofs.GroupLemmas.{texts_in, all_cuts, texts-append, texts-cons, texts_whole, some_cuts, groups_one, groups_first}

-- ---- cuts without a text

pub no_text : (text : Placed) (cuts : List Cut) → texts_in (Text text ∷ cuts) ≡ 0 → ⊥
no_text text cuts none = omega (arith, texts-cons (Text text) cuts, none)

-- they are refused, whatever came before them
abbrev pub AreRefusedAs : List Examination → List Refusal → Type 0
AreRefusedAs examinations refused = (earlier : List Candidate) → verdicts_from earlier examinations ≡ map Refused refused

pub unread_one : (refusal : Refusal) (examination : Examination) (examinations : List Examination) (refused : List Refusal) → examination ≡ Unread refusal → AreRefusedAs examinations refused
    → AreRefusedAs (examination ∷ examinations) (refusal ∷ refused)
unfolding verdicts_from
unread_one refusal examination examinations refused is rest =
    let P : Examination → Type 0 = λ e. AreRefusedAs (e ∷ examinations) (refusal ∷ refused) in
    subst P (sym is) (λ earlier. ap (λ (l : List Verdict). Refused refusal ∷ l) (rest earlier))

pub unread : (cuts : List Cut) (examinations : List Examination) → texts_in cuts ≡ 0 → AllZip IsExaminationOf cuts examinations → (refused : List Refusal) × AreRefusedAs examinations refused
unfolding verdicts_from
unread [] [] none each = ([], λ earlier. refl)
unread [] (examination ∷ examinations) none each = absurd each
unread (cut ∷ cuts) [] none each = absurd each
unread (Text text ∷ cuts) (examination ∷ examinations) none each = absurd (no_text text cuts none)
unread (TooLong place long ∷ cuts) (examination ∷ examinations) none each =
    let rest = unread cuts examinations (omega (arith, texts-cons (TooLong place long) cuts, none)) each.1 in
    let refusal : Refusal = record { place = place; why = causes.TooLong long } in
    (refusal ∷ rest.0, unread_one refusal examination examinations rest.0 each.0 rest.1)
unread (Preamble place ∷ cuts) (examination ∷ examinations) none each =
    let rest = unread cuts examinations (omega (arith, texts-cons (Preamble place) cuts, none)) each.1 in
    let refusal : Refusal = record { place = place; why = causes.Preamble } in
    (refusal ∷ rest.0, unread_one refusal examination examinations rest.0 each.0 rest.1)

-- the verdicts behind some examinations
verdicts_after : (earlier : List Candidate) (first : List Examination) (rest : List Examination) → (last : List Candidate) × (verdicts_from earlier (first ++ rest) ≡ verdicts_from earlier first ++ verdicts_from last rest)
unfolding verdicts_from
verdicts_after earlier [] rest = (earlier, refl)
verdicts_after earlier (examination ∷ first) rest = by_verdict (verdict_of earlier examination) (λ (verdict : Verdict). verdicts_after (and_candidate earlier verdict) first rest)
  where
    by_verdict : (verdict : Verdict) → ((f : Verdict) → (last : List Candidate) × (verdicts_from (and_candidate earlier f) (first ++ rest) ≡ verdicts_from (and_candidate earlier f) first ++ verdicts_from last rest))
        → (last : List Candidate) × (verdict ∷ verdicts_from (and_candidate earlier verdict) (first ++ rest) ≡ (verdict ∷ verdicts_from (and_candidate earlier verdict) first) ++ verdicts_from last rest)
    by_verdict verdict each = ((each verdict).0, ap (λ (l : List Verdict). verdict ∷ l) (each verdict).1)

pub with_refused : (first rest : List Examination) (refused : List Refusal) → AreRefusedAs rest refused → verdicts (first ++ rest) ≡ verdicts first ++ map Refused refused
with_refused first rest refused are =
    let behind = verdicts_after [] first rest in
    behind.1 ∙ ap (λ (l : List Verdict). verdicts first ++ l) (are behind.0)

pub no_candidates : (refused : List Refusal) → candidates (map Refused refused) ≡ []
no_candidates [] = refl
no_candidates (refusal ∷ refused) = no_candidates refused

pub all_refusals : (refused : List Refusal) → refusals (map Refused refused) ≡ refused
all_refusals [] = refl
all_refusals (refusal ∷ refused) = ap (λ (l : List Refusal). refusal ∷ l) (all_refusals refused)

still_refused : (number : Numbering) (refused : List Refusal) → map (verdict_behind number) (map Refused refused) ≡ map Refused refused
still_refused number [] = refl
still_refused number (refusal ∷ refused) = ap (λ (l : List Verdict). Refused refusal ∷ l) (still_refused number refused)

pub behind_refused : (number : Numbering) (first rest : List Examination) (refused : List Refusal) → AreRefusedAs rest refused → verdicts_behind number (first ++ rest) ≡ verdicts_behind number first ++ map Refused refused
behind_refused number first rest refused are =
    ap (map (verdict_behind number)) (with_refused first rest refused are)
    ∙ map-append (verdict_behind number) (verdicts first) (map Refused refused)
    ∙ ap (λ (l : List Verdict). verdicts_behind number first ++ l) (still_refused number refused)

pub alone_refused : (number : Numbering) (rest : List Examination) (refused : List Refusal) → AreRefusedAs rest refused → verdicts_behind number rest ≡ map Refused refused
alone_refused number rest refused are = ap (map (verdict_behind number)) (are []) ∙ still_refused number refused

pub candidates_more : (vs : List Verdict) (refused : List Refusal) → candidates (vs ++ map Refused refused) ≡ candidates vs
candidates_more vs refused =
    filter_map-append candidate_of vs (map Refused refused) ∙ ap (λ (l : List Candidate). candidates vs ++ l) (no_candidates refused) ∙ append-nil (candidates vs)

pub refusals_more : (vs : List Verdict) (refused : List Refusal) → refusals (vs ++ map Refused refused) ≡ refusals vs ++ refused
refusals_more vs refused = filter_map-append refusal_of vs (map Refused refused) ∙ ap (λ (l : List Refusal). refusals vs ++ l) (all_refusals refused)

-- ---- groups that are settled alike

abbrev pub batches_behind : List ℕ → List Game → List (List Examination) → List Batch
batches_behind label stored examinations = filter_map (λ group. batch_of label (candidates group)) (verdicts_in_turn stored examinations)

abbrev pub refused_behind : List Game → List (List Examination) → List Refusal
refused_behind stored examinations = flat_map refusals (verdicts_in_turn stored examinations)

abbrev AllNone : List (List Examination) → Type 0
AllNone examinations = AllByRecursion HasNoCandidate examinations

pub record AreAlike (label : List ℕ) (stored : List Game) (groups : List (List Cut)) (examinations : List (List Examination)) : Type 0 where
  pub others : List (List Examination)
  pub are : AreExaminations groups others
  pub batches : batches_behind label stored others ≡ batches_behind label stored examinations
  pub refused : refused_behind stored others ≡ refused_behind stored examinations
  pub none : AllNone examinations → AllNone others

same_groups : (label : List ℕ) (stored : List Game) (cuts : List Cut) (gs : List (List Cut)) (examinations : List (List Examination)) → groups cuts ≡ gs → AreExaminations gs examinations → AreAlike label stored (groups cuts) examinations
same_groups label stored cuts gs examinations is each = record {
  others = examinations;
  are = subst (λ (l : List (List Cut)). AreExaminations l examinations) (sym is) each;
  batches = refl;
  refused = refl;
  none = λ none. none;
}

-- a group in hand without a text, and nothing before it
no_hand : (label : List ℕ) (stored : List Game) (hand : List Cut) (rest : List Examination) → texts_in hand ≡ 0 → AllZip IsExaminationOf hand rest → AreAlike label stored (groups hand) (rest ∷ [])
unfolding verdicts_from verdicts_in_turn groups
no_hand label stored [] [] none more = record { others = []; are = tt; batches = refl; refused = refl; none = λ none. tt }
no_hand label stored [] (examination ∷ examinations) none more = absurd more
no_hand label stored (cut ∷ hand) rest none more = same_groups label stored (cut ∷ hand) ((cut ∷ hand) ∷ []) (rest ∷ []) (groups_one (cut ∷ hand) (omega arith) (omega (arith, none))) (more, tt)

-- a whole group, and cuts without a text behind it
last_full : (label : List ℕ) (stored : List Game) (group hand : List Cut) (first rest : List Examination) → IsWhole group → texts_in hand ≡ 0 → AllZip IsExaminationOf group first → AllZip IsExaminationOf hand rest
    → AreAlike label stored (groups (group ++ hand)) (first ∷ rest ∷ [])
unfolding verdicts_in_turn
last_full label stored group hand first rest full none each more =
    let texts : texts_in (group ++ hand) ≡ 512 = omega (arith, texts-append group hand, texts_whole group full, none) in
    let one : groups (group ++ hand) ≡ (group ++ hand) ∷ [] = groups_one (group ++ hand) (some_cuts (group ++ hand) (omega (arith, texts))) (omega (arith, texts)) in
    let no = unread hand rest none more in
    let here = verdicts_behind (numbers_of stored) first in
    let both : verdicts_behind (numbers_of stored) (first ++ rest) ≡ verdicts_behind (numbers_of stored) first ++ map Refused no.0 = behind_refused (numbers_of stored) first rest no.0 no.1 in
    let last : verdicts_behind (numbers_of (and_games stored first)) rest ≡ map Refused no.0 = alone_refused (numbers_of (and_games stored first)) rest no.0 no.1 in
    record {
      others = (first ++ rest) ∷ [];
      are = subst (λ (l : List (List Cut)). AreExaminations l ((first ++ rest) ∷ [])) (sym one) (zip-append IsExaminationOf group hand first rest each more, tt);
      batches =
          ap (λ (l : List Candidate). cons_option (batch_of label l) []) (ap candidates both ∙ candidates_more here no.0)
          ∙ ap (λ (l : List Batch). cons_option (batch_of label (candidates here)) l) (sym (ap (λ (l : List Candidate). cons_option (batch_of label l) []) (ap candidates last ∙ no_candidates no.0)));
      refused =
          append-nil (refusals (verdicts_behind (numbers_of stored) (first ++ rest))) ∙ ap refusals both ∙ refusals_more here no.0
          ∙ ap (λ (l : List Refusal). refusals here ++ l) (sym (append-nil (refusals (verdicts_behind (numbers_of (and_games stored first)) rest)) ∙ ap refusals last ∙ all_refusals no.0));
      none = λ all. (ap candidates (with_refused first rest no.0 no.1) ∙ candidates_more (verdicts first) no.0 ∙ all.0, tt);
    }

-- a whole group, and others behind it
one_before : (label : List ℕ) (stored : List Game) (group cuts : List Cut) (first : List Examination) (examinations : List (List Examination)) → IsWhole group → 0 < texts_in cuts → AllZip IsExaminationOf group first
    → AreAlike label (and_games stored first) (groups cuts) examinations → AreAlike label stored (groups (group ++ cuts)) (first ∷ examinations)
unfolding verdicts_in_turn
one_before label stored group cuts first examinations full some each rest = record {
  others = first ∷ rest.others;
  are = subst (λ (l : List (List Cut)). AreExaminations l (first ∷ rest.others)) (sym (groups_first group cuts full some)) (each, rest.are);
  batches = ap (λ (l : List Batch). cons_option (batch_of label (candidates (verdicts_behind (numbers_of stored) first))) l) rest.batches;
  refused = ap (λ (l : List Refusal). refusals (verdicts_behind (numbers_of stored) first) ++ l) rest.refused;
  none = λ all. (all.0, rest.none all.1);
}

pub none_or_some : (n : ℕ) → (n ≡ 0) ⊎ (0 < n)
none_or_some zero = inl refl
none_or_some (suc n) = inr (omega arith)

-- whole groups, and the group in hand
pub alike : (label : List ℕ) (stored : List Game) (closed : List (List Cut)) (hand : List Cut) (examinations : List (List Examination)) → AllByRecursion IsWhole closed → texts_in hand ≤ 512
    → AreExaminations (closed ++ hand ∷ []) examinations → AreAlike label stored (groups (all_cuts closed ++ hand)) examinations
alike label stored [] hand [] full few each = absurd each
alike label stored [] hand (first ∷ second ∷ examinations) full few each = absurd each.1
alike label stored [] hand (first ∷ []) full few each = by_texts (none_or_some (texts_in hand))
  where
    by_texts : (texts_in hand ≡ 0) ⊎ (0 < texts_in hand) → AreAlike label stored (groups hand) (first ∷ [])
    by_texts (inl none) = no_hand label stored hand first none each.0
    by_texts (inr some) = same_groups label stored hand (hand ∷ []) (first ∷ []) (groups_one hand (some_cuts hand some) few) each
alike label stored (group ∷ closed) hand [] full few each = absurd each
alike label stored (group ∷ closed) hand (first ∷ examinations) full few each =
    subst (λ (cuts : List Cut). AreAlike label stored (groups cuts) (first ∷ examinations)) (sym (append_assoc group (all_cuts closed) hand))
    (by_rest closed examinations full.1 each.1 (none_or_some (texts_in (all_cuts closed ++ hand))) (λ (s : List Game). alike label s closed hand examinations full.1 few each.1))
  where
    by_rest : (closed : List (List Cut)) (examinations : List (List Examination)) → AllByRecursion IsWhole closed → AreExaminations (closed ++ hand ∷ []) examinations → (texts_in (all_cuts closed ++ hand) ≡ 0) ⊎ (0 < texts_in (all_cuts closed ++ hand))
        → ((s : List Game) → AreAlike label s (groups (all_cuts closed ++ hand)) examinations) → AreAlike label stored (groups (group ++ (all_cuts closed ++ hand))) (first ∷ examinations)
    by_rest closed examinations full' each' (inr some) later = one_before label stored group (all_cuts closed ++ hand) first examinations full.0 some each.0 (later (and_games stored first))
    by_rest [] [] full' each' (inl none) later = absurd each'
    by_rest [] (rest ∷ []) full' each' (inl none) later = last_full label stored group hand first rest full.0 none each.0 each'.0
    by_rest [] (rest ∷ more ∷ examinations) full' each' (inl none) later = absurd each'.1
    by_rest (second ∷ closed) examinations full' each' (inl none) later =
        absurd (omega (arith, none, texts-append (second ++ all_cuts closed) hand, texts-append second (all_cuts closed), texts_whole second full'.0))

-- What becomes of a group's texts, merged with its other cuts by their places, is what becomes of the group.
use Rattle.std.proofs.Common.{◌≡◌, ℕ, ◌+◌, ◌<◌, ◌≤◌, Bool, List, [], ◌∷◌, ◌++◌, length, take, drop, map, filter_map, find, if◌then◌else◌, Option, None, Some, option_map, Result, Ok, Err, refl, sym, ap, subst, ◌∙◌, append_assoc, ◌-◌, ◌⊎◌, inl, inr, arith, zero, suc}
use Rattle.std.specs.List.{AllByRecursion, AllZip}
use Rattle.std.proofs.lemmas.Bool.{lt-ltb, le-ltb}
use Rattle.std.proofs.lemmas.List.{append-nil, take_rest}
use Rattle.explorer_model.specs.declared.archive.Game.{Game}
use Rattle.explorer_model.specs.declared.archive.Placed.{Placed}
use Rattle.explorer_model.specs.declared.fault.GameFault.{GameFault}
use Rattle.explorer_model.specs.declared.fault.Refusal.{Refusal}
use Rattle.explorer_model.specs.declared.fault.Why.TheVariants as causes
use Rattle.explorer_model.specs.Cuts.{Cut, Text, TooLong, Preamble}
use Rattle.explorer_model.specs.Imports.{Examination, Unread, IsExaminationOf, Candidate, Verdict, Accepted, Refused, verdict_of, verdict_by, verdict_of_game, has_id_of, and_candidate, verdicts_from, verdicts, candidates, refusals}
use Rattle.batch_tally.specs.Tallying.{IsExaminationOfText, IsTallying, IsTallyMade}
use Rattle.batch_tally.specs.declared.tallying.Tallying.{Tallying}
use Rattle.import_run.specs.declared.text_group.TextGroup.{TextGroup}
use Rattle.import_run.specs.declared.text_group.TalliedGroup.{TalliedGroup}
use Rattle.import_run.specs.Grouping.{Ascend, AscendFrom, text_of, unread_of, put_by_place, merged, IsGroupOf, IsTallied}
use Rattle.import_run.specs.Labelling.{under}
use Rattle.import_run.proofs.LabelLemmas.{made_under}
use Rattle.import_run.proofs.PlaceLemmas.{ascend_sooner}

-- ---- merging

pub merged-nil : (refused : List Refusal) → merged refused [] ≡ refused
merged-nil [] = refl
merged-nil (refusal ∷ refused) = ap (λ (rest : List Refusal). refusal ∷ rest) (merged-nil refused)

put_now : (a b : Refusal) (rest : List Refusal → List Refusal) (others : List Refusal) → a.place < b.place → put_by_place a rest (b ∷ others) ≡ a ∷ rest (b ∷ others)
put_now a b rest others less = ap (λ (t : Bool). if t then a ∷ rest (b ∷ others) else b ∷ put_by_place a rest others) (lt-ltb a.place b.place less)

put_later : (a b : Refusal) (rest : List Refusal → List Refusal) (others : List Refusal) → b.place ≤ a.place → put_by_place a rest (b ∷ others) ≡ b ∷ put_by_place a rest others
put_later a b rest others le = ap (λ (t : Bool). if t then a ∷ rest (b ∷ others) else b ∷ put_by_place a rest others) (le-ltb a.place b.place le)

-- each stands at the place or behind it
abbrev pub Above : ℕ → List Refusal → Type 0
Above least refused = AllByRecursion (λ (refusal : Refusal). least ≤ refusal.place) refused

pub merge_first : (a : Refusal) (refused others : List Refusal) → Above (a.place + 1) others → merged (a ∷ refused) others ≡ a ∷ merged refused others
merge_first a refused [] above = refl
merge_first a refused (b ∷ others) above = put_now a b (merged refused) others (omega (arith, above.0))

pub merge_other : (b : Refusal) (refused others : List Refusal) → Above (b.place + 1) refused → merged refused (b ∷ others) ≡ b ∷ merged refused others
merge_other b [] others above = refl
merge_other b (a ∷ refused) others above = put_later a b (merged refused) others (omega (arith, above.0))

-- ---- verdicts

-- a verdict is that of a text at the place
abbrev IsAt : ℕ → Verdict → Type 0
IsAt place (Accepted candidate) = Unit {0}
IsAt place (Refused refusal) = refusal.place ≡ place

found_at : (first : Option Candidate) (place : ℕ) (text : List ℕ) (game : Game) → IsAt place (verdict_by first place text game)
found_at None place text game = tt
found_at (Some first) place text game = refl

game_at : (earlier : List Candidate) (place : ℕ) (text : List ℕ) (game : Result Game GameFault) → IsAt place (verdict_of_game earlier place text game)
game_at earlier place text (Err fault) = refl
game_at earlier place text (Ok game) = found_at (find (has_id_of game) earlier) place text game

verdict_at : (earlier : List Candidate) (text : Placed) (examination : Examination) → IsExaminationOfText text examination → IsAt text.place (verdict_of earlier examination)
verdict_at earlier text examination is =
    let P : Examination → Type 0 = λ examination. IsAt text.place (verdict_of earlier examination) in
    subst P (sym is.2) (game_at earlier text.place text.bytes is.0)

above_unread : (least : ℕ) (cuts : List Cut) → AscendFrom least cuts → Above least (filter_map unread_of cuts)
above_unread least [] h = tt
above_unread least (Text text ∷ cuts) h = above_unread least cuts (ascend_sooner least (text.place + 1) cuts (omega (arith, h.0)) h.1)
above_unread least (TooLong place long ∷ cuts) h = (h.0, above_unread least cuts (ascend_sooner least (place + 1) cuts (omega (arith, h.0)) h.1))
above_unread least (Preamble place ∷ cuts) h = (h.0, above_unread least cuts (ascend_sooner least (place + 1) cuts (omega (arith, h.0)) h.1))

-- what is refused of the texts among the cuts stands at the place or behind it
above_read : (least : ℕ) (cuts : List Cut) (earlier : List Candidate) (examinations : List Examination) → AscendFrom least cuts → AllZip IsExaminationOfText (filter_map text_of cuts) examinations → Above least (refusals (verdicts_from earlier examinations))
unfolding verdicts_from
above_read least [] earlier [] h each = tt
above_read least [] earlier (examination ∷ examinations) h each = absurd each
above_read least (TooLong place long ∷ cuts) earlier examinations h each = above_read least cuts earlier examinations (ascend_sooner least (place + 1) cuts (omega (arith, h.0)) h.1) each
above_read least (Preamble place ∷ cuts) earlier examinations h each = above_read least cuts earlier examinations (ascend_sooner least (place + 1) cuts (omega (arith, h.0)) h.1) each
above_read least (Text text ∷ cuts) earlier [] h each = absurd each
above_read least (Text text ∷ cuts) earlier (examination ∷ examinations) h each = by_verdict (verdict_of earlier examination) (verdict_at earlier text examination each.0)
    (λ (verdict : Verdict). above_read least cuts (and_candidate earlier verdict) examinations (ascend_sooner least (text.place + 1) cuts (omega (arith, h.0)) h.1) each.1)
  where
    by_verdict : (verdict : Verdict) → IsAt text.place verdict → ((f : Verdict) → Above least (refusals (verdicts_from (and_candidate earlier f) examinations))) → Above least (refusals (verdict ∷ verdicts_from (and_candidate earlier verdict) examinations))
    by_verdict (Accepted candidate) at later = later (Accepted candidate)
    by_verdict (Refused refusal) at later = (omega (arith, at, h.0), later (Refused refusal))

-- ---- the examinations of a group

-- the cuts examined, where its texts are these
abbrev pub woven : List Cut → List Examination → List Examination
woven [] examinations = []
woven (Text text ∷ cuts) [] = []
woven (Text text ∷ cuts) (examination ∷ examinations) = examination ∷ woven cuts examinations
woven (TooLong place long ∷ cuts) examinations = Unread (record { place = place; why = causes.TooLong long }) ∷ woven cuts examinations
woven (Preamble place ∷ cuts) examinations = Unread (record { place = place; why = causes.Preamble }) ∷ woven cuts examinations

pub woven_examinations : (cuts : List Cut) (examinations : List Examination) → AllZip IsExaminationOfText (filter_map text_of cuts) examinations → AllZip IsExaminationOf cuts (woven cuts examinations)
woven_examinations [] examinations each = tt
woven_examinations (Text text ∷ cuts) [] each = absurd each
woven_examinations (Text text ∷ cuts) (examination ∷ examinations) each = (each.0, woven_examinations cuts examinations each.1)
woven_examinations (TooLong place long ∷ cuts) examinations each = (refl, woven_examinations cuts examinations each)
woven_examinations (Preamble place ∷ cuts) examinations each = (refl, woven_examinations cuts examinations each)

abbrev Woven : List Cut → List Candidate → List Examination → Type 0
Woven cuts earlier examinations =
    (candidates (verdicts_from earlier (woven cuts examinations)) ≡ candidates (verdicts_from earlier examinations))
    × (refusals (verdicts_from earlier (woven cuts examinations)) ≡ merged (refusals (verdicts_from earlier examinations)) (filter_map unread_of cuts))

woven_unread : (refusal : Refusal) (refused others rest : List Refusal) → rest ≡ merged refused others → Above (refusal.place + 1) refused → refusal ∷ rest ≡ merged refused (refusal ∷ others)
woven_unread refusal refused others rest is above = ap (λ (l : List Refusal). refusal ∷ l) is ∙ sym (merge_other refusal refused others above)

woven_from : (least : ℕ) (cuts : List Cut) (earlier : List Candidate) (examinations : List Examination) → AscendFrom least cuts → AllZip IsExaminationOfText (filter_map text_of cuts) examinations → Woven cuts earlier examinations
unfolding verdicts_from
woven_from least [] earlier [] h each = (refl, refl)
woven_from least [] earlier (examination ∷ examinations) h each = absurd each
woven_from least (TooLong place long ∷ cuts) earlier examinations h each =
    let later = woven_from (place + 1) cuts earlier examinations h.1 each in
    (later.0, woven_unread (record { place = place; why = causes.TooLong long }) (refusals (verdicts_from earlier examinations)) (filter_map unread_of cuts) _ later.1 (above_read (place + 1) cuts earlier examinations h.1 each))
woven_from least (Preamble place ∷ cuts) earlier examinations h each =
    let later = woven_from (place + 1) cuts earlier examinations h.1 each in
    (later.0, woven_unread (record { place = place; why = causes.Preamble }) (refusals (verdicts_from earlier examinations)) (filter_map unread_of cuts) _ later.1 (above_read (place + 1) cuts earlier examinations h.1 each))
woven_from least (Text text ∷ cuts) earlier [] h each = absurd each
woven_from least (Text text ∷ cuts) earlier (examination ∷ examinations) h each = by_verdict (verdict_of earlier examination) (verdict_at earlier text examination each.0)
    (λ (verdict : Verdict). woven_from (text.place + 1) cuts (and_candidate earlier verdict) examinations h.1 each.1)
  where
    by_verdict : (verdict : Verdict) → IsAt text.place verdict → ((f : Verdict) → Woven cuts (and_candidate earlier f) examinations)
        → (candidates (verdict ∷ verdicts_from (and_candidate earlier verdict) (woven cuts examinations)) ≡ candidates (verdict ∷ verdicts_from (and_candidate earlier verdict) examinations))
        × (refusals (verdict ∷ verdicts_from (and_candidate earlier verdict) (woven cuts examinations)) ≡ merged (refusals (verdict ∷ verdicts_from (and_candidate earlier verdict) examinations)) (filter_map unread_of cuts))
    by_verdict (Accepted candidate) at later = (ap (λ (l : List Candidate). candidate ∷ l) (later (Accepted candidate)).0, (later (Accepted candidate)).1)
    by_verdict (Refused refusal) at later = (
      (later (Refused refusal)).0,
      ap (λ (l : List Refusal). refusal ∷ l) (later (Refused refusal)).1
          ∙ sym (merge_first refusal (refusals (verdicts_from earlier examinations)) (filter_map unread_of cuts) (subst (λ (n : ℕ). Above (n + 1) (filter_map unread_of cuts)) (sym at) (above_unread (text.place + 1) cuts h.1))),
    )

pub woven_verdicts : (cuts : List Cut) (examinations : List Examination) → Ascend cuts → AllZip IsExaminationOfText (filter_map text_of cuts) examinations
    → (candidates (verdicts (woven cuts examinations)) ≡ candidates (verdicts examinations)) × (refusals (verdicts (woven cuts examinations)) ≡ merged (refusals (verdicts examinations)) (filter_map unread_of cuts))
woven_verdicts cuts examinations h each = woven_from 0 cuts [] examinations h each

-- ---- a group that is tallied

pub is_tallied : (cuts : List Cut) (group : TextGroup) (made : Tallying) (tallied : TalliedGroup) → Ascend cuts → IsGroupOf cuts group → IsTallying group.texts.items made
    → tallied.refused.items ≡ merged made.refused.items group.unread.items → tallied.tally ≡ option_map (under group.label) made.tally → tallied.places.items ≡ made.places.items → IsTallied group.label cuts tallied
is_tallied cuts group made tallied ascend holds tallying refused tally places =
    let each : AllZip IsExaminationOfText (filter_map text_of cuts) tallying.examinations = subst (λ (l : List Placed). AllZip IsExaminationOfText l tallying.examinations) holds.texts tallying.are_examinations in
    let both = woven_verdicts cuts tallying.examinations ascend each in
    record {
      examinations = woven cuts tallying.examinations;
      are_examinations = woven_examinations cuts tallying.examinations each;
      places = places ∙ tallying.places ∙ ap (map (λ (c : Candidate). c.place)) (sym both.0);
      refused = refused ∙ ap (λ (l : List Refusal). merged l group.unread.items) tallying.refused ∙ ap (λ (l : List Refusal). merged (refusals (verdicts tallying.examinations)) l) holds.unread ∙ sym both.1;
      tally = made_under group.label (candidates (verdicts (woven cuts tallying.examinations))) made.tally tallied.tally (subst (λ (l : List Candidate). IsTallyMade l made.tally) (sym both.0) tallying.tally) tally;
    }

-- ---- the end of the loop that merges

drop_all : (xs : List Refusal) (i : ℕ) → length xs ≤ i → drop i xs ≡ []
drop_all [] zero le = refl
drop_all [] (suc i) le = refl
drop_all (x ∷ xs) zero le = absurd (omega arith)
drop_all (x ∷ xs) (suc i) le = drop_all xs i (omega arith)

pub merge_end : (all mid last goal texts unread : List Refusal) (i j : ℕ) → (length texts ≤ i) ⊎ (length unread ≤ j) → all ++ merged (drop i texts) (drop j unread) ≡ goal
    → mid ≡ all ++ take (length texts - i) (drop i texts) → last ≡ mid ++ take (length unread - j) (drop j unread) → last ≡ goal
merge_end all mid last goal texts unread i j ended so_far is last_is =
    last_is
    ∙ ap (λ (l : List Refusal). l ++ take (length unread - j) (drop j unread)) (is ∙ ap (λ (l : List Refusal). all ++ l) (take_rest texts i))
    ∙ ap (λ (l : List Refusal). (all ++ drop i texts) ++ l) (take_rest unread j)
    ∙ append_assoc all (drop i texts) (drop j unread)
    ∙ ap (λ (l : List Refusal). all ++ l) (by_end ended)
    ∙ so_far
  where
    by_end : (length texts ≤ i) ⊎ (length unread ≤ j) → drop i texts ++ drop j unread ≡ merged (drop i texts) (drop j unread)
    by_end (inl over) = ap (λ (l : List Refusal). l ++ drop j unread) (drop_all texts i over) ∙ ap (λ (l : List Refusal). merged l (drop j unread)) (sym (drop_all texts i over))
    by_end (inr over) =
        ap (λ (l : List Refusal). drop i texts ++ l) (drop_all unread j over)
        ∙ append-nil (drop i texts) ∙ sym (merged-nil (drop i texts))
        ∙ ap (λ (l : List Refusal). merged (drop i texts) l) (sym (drop_all unread j over))

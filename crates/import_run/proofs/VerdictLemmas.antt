-- The verdicts on a group's cuts, where more and more ids are found to be stored.
use Rattle.std.proofs.Common.{◌≡◌, ◌≤◌, ◌+◌, ℕ, Bool, true, false, cond, List, [], ◌∷◌, ◌++◌, map, filter, find, Option, None, Some, option_map, Result, Ok, Err, refl, sym, ap, ◌∙◌, subst, arith}
use Rattle.std.proofs.lemmas.List.{append-nil}
use Rattle.std.proofs.lemmas.List.Elements.{filter-append}
use Rattle.std.specs.List.{AllByRecursion, AllZip}
use Rattle.std.specs.Option.{option_or}
use Rattle.std.specs.Prelude.{IfSome, is_none}
use Rattle.tally_rows.specs.Tally.{Counted}
use Rattle.batch_tally.specs.declared.tallying.Tallying.{Tallying}
use Rattle.import_run.specs.Hand.{InHand}
use Rattle.explorer_model.specs.declared.archive.Game.{Game}
use Rattle.explorer_model.specs.declared.archive.Placed.{Placed}
use Rattle.explorer_model.specs.declared.fault.GameFault.{GameFault}
use Rattle.explorer_model.specs.declared.fault.Refusal.{Refusal}
use Rattle.explorer_model.specs.Games.{GameOf}
use Rattle.explorer_model.specs.Imports.{Examination, Read, Candidate, Numbering, Verdict, Accepted, Refused, verdict_of, verdict_by, verdict_of_game, and_candidate, verdicts_from, verdicts, candidates, refusals, has_id_of, IsExaminationOf, verdict_behind, verdict_if_stored}
use Rattle.batch_tally.specs.Tallying.{IsExaminationOfText, IsTallying, IsTallyMade}
use Rattle.import_run.specs.Grouping.{AscendFrom, merged, place_of}
use Rattle.explorer_model.specs.Cuts.{Cut, Text, TooLong, Preamble}
use Rattle.import_run.specs.Labelling.{under}
use Rattle.import_run.proofs.LabelLemmas.{counts_under}
use Rattle.import_run.proofs.MergeLemmas.{Above, merge_first, merge_other}
use Rattle.import_run.specs.Settling.{AreRead, Fresh, id_of, kept, lost, left_by, named_by, placed, repeated}

-- a text has one game, or one first fault
abbrev pub OneGame : Type 0
OneGame = (text : List ℕ) (game other : Result Game GameFault) → GameOf text game → GameOf text other → game ≡ other

-- ---- places

abbrev pub place_of_verdict : Verdict → ℕ
place_of_verdict (Accepted candidate) = candidate.place
place_of_verdict (Refused refusal) = refusal.place

abbrev pub Ascends : ℕ → List Verdict → Type 0
Ascends first [] = Unit {0}
Ascends first (verdict ∷ verdicts) = (first ≤ place_of_verdict verdict) × Ascends (place_of_verdict verdict + 1) verdicts

found_at : (first : Option Candidate) (place : ℕ) (text : List ℕ) (game : Game) → place_of_verdict (verdict_by first place text game) ≡ place
found_at None place text game = refl
found_at (Some first) place text game = refl

game_at : (earlier : List Candidate) (place : ℕ) (text : List ℕ) (game : Result Game GameFault) → place_of_verdict (verdict_of_game earlier place text game) ≡ place
game_at earlier place text (Err fault) = refl
game_at earlier place text (Ok game) = found_at (find (has_id_of game) earlier) place text game

verdict_at : (earlier : List Candidate) (cut : Cut) (examination : Examination) → IsExaminationOf cut examination → place_of_verdict (verdict_of earlier examination) ≡ place_of cut
verdict_at earlier (Text text) examination is =
    let P : Examination → Type 0 = λ examination. place_of_verdict (verdict_of earlier examination) ≡ text.place in
    subst P (sym is.2) (game_at earlier text.place text.bytes is.0)
verdict_at earlier (TooLong place long) examination is = ap (λ (e : Examination). place_of_verdict (verdict_of earlier e)) is
verdict_at earlier (Preamble place) examination is = ap (λ (e : Examination). place_of_verdict (verdict_of earlier e)) is

pub ascends : (first : ℕ) (cuts : List Cut) (earlier : List Candidate) (examinations : List Examination) → AscendFrom first cuts → AllZip IsExaminationOf cuts examinations → Ascends first (verdicts_from earlier examinations)
unfolding verdicts_from
ascends first [] earlier [] h each = tt
ascends first [] earlier (examination ∷ examinations) h each = absurd each
ascends first (cut ∷ cuts) earlier [] h each = absurd each
ascends first (cut ∷ cuts) earlier (examination ∷ examinations) h each =
    let verdict = verdict_of earlier examination in
    let at = verdict_at earlier cut examination each.0 in
    let P : ℕ → Type 0 = λ k. Ascends (k + 1) (verdicts_from (and_candidate earlier verdict) examinations) in
    (omega (arith, at, h.0), subst P (sym at) (ascends (place_of cut + 1) cuts (and_candidate earlier verdict) examinations h.1 each.1))

sooner : (a b : ℕ) (l : List Refusal) → a ≤ b → Above b l → Above a l
sooner a b [] le h = tt
sooner a b (r ∷ l) le h = (omega (arith, h.0), sooner a b l le h.1)

above_lost : (stored : Numbering) (first : ℕ) (fs : List Verdict) → Ascends first fs → Above first (lost stored fs)
above_lost stored first [] h = tt
above_lost stored first (Refused refusal ∷ fs) h = (h.0, sooner first (refusal.place + 1) (lost stored fs) (omega (arith, h.0)) (above_lost stored (refusal.place + 1) fs h.1))
above_lost stored first (Accepted c ∷ fs) h = by_stored (stored (id_of c)) (sooner first (c.place + 1) (lost stored fs) (omega (arith, h.0)) (above_lost stored (c.place + 1) fs h.1))
  where
    by_stored : (o : Option ℕ) → Above first (lost stored fs) → Above first (refusals (verdict_if_stored o c ∷ map (verdict_behind stored) fs))
    by_stored None later = later
    by_stored (Some n) later = (h.0, later)

above_named : (stored number : Numbering) (first : ℕ) (fs : List Verdict) → Ascends first fs → Above first (named_by number (kept stored fs))
above_named stored number first [] h = tt
above_named stored number first (Refused refusal ∷ fs) h = sooner first (refusal.place + 1) (named_by number (kept stored fs)) (omega (arith, h.0)) (above_named stored number (refusal.place + 1) fs h.1)
above_named stored number first (Accepted c ∷ fs) h = by_stored (stored (id_of c)) (number (id_of c)) refl
    (sooner first (c.place + 1) (named_by number (kept stored fs)) (omega (arith, h.0)) (above_named stored number (c.place + 1) fs h.1))
  where
    by_stored : (o p : Option ℕ) → number (id_of c) ≡ p → Above first (named_by number (kept stored fs)) → Above first (named_by number (candidates (verdict_if_stored o c ∷ map (verdict_behind stored) fs)))
    by_stored (Some n) p is later = later
    by_stored None None is later = rw is later
    by_stored None (Some n) is later = rw is (h.0, later)

-- ---- merging

-- ids that were found before, and those that are found now
abbrev pub found : (Numbering) → (Numbering) → List ℕ → Option ℕ
found stored number id = option_or (stored id) (number id)

pub merged_lost : (stored number : Numbering) (first : ℕ) (fs : List Verdict) → Ascends first fs → merged (lost stored fs) (named_by number (kept stored fs)) ≡ lost (found stored number) fs
merged_lost stored number first [] h = refl
merged_lost stored number first (Refused refusal ∷ fs) h =
    merge_first refusal (lost stored fs) (named_by number (kept stored fs)) (above_named stored number (refusal.place + 1) fs h.1)
    ∙ ap (λ (l : List Refusal). refusal ∷ l) (merged_lost stored number (refusal.place + 1) fs h.1)
merged_lost stored number first (Accepted c ∷ fs) h =
    by_both (stored (id_of c)) (number (id_of c)) refl (merged_lost stored number (c.place + 1) fs h.1) (above_lost stored (c.place + 1) fs h.1) (above_named stored number (c.place + 1) fs h.1)
  where
    by_both : (o p : Option ℕ) → number (id_of c) ≡ p → merged (lost stored fs) (named_by number (kept stored fs)) ≡ lost (found stored number) fs
        → Above (c.place + 1) (lost stored fs) → Above (c.place + 1) (named_by number (kept stored fs))
        → merged (refusals (verdict_if_stored o c ∷ map (verdict_behind stored) fs)) (named_by number (candidates (verdict_if_stored o c ∷ map (verdict_behind stored) fs)))
        ≡ refusals (verdict_if_stored (option_or o (number (id_of c))) c ∷ map (verdict_behind (found stored number)) fs)
    by_both (Some n) p is later lost_above named_above =
        merge_first (repeated c.place n) (lost stored fs) (named_by number (kept stored fs)) named_above ∙ ap (λ (l : List Refusal). repeated c.place n ∷ l) later
    by_both None None is later lost_above named_above = rw is later
    by_both None (Some n) is later lost_above named_above =
        rw is (merge_other (repeated c.place n) (lost stored fs) (named_by number (kept stored fs)) lost_above ∙ ap (λ (l : List Refusal). repeated c.place n ∷ l) later)

pub kept_found : (stored number : Numbering) (fs : List Verdict) → kept (found stored number) fs ≡ left_by number (kept stored fs)
kept_found stored number [] = refl
kept_found stored number (Refused refusal ∷ fs) = kept_found stored number fs
kept_found stored number (Accepted c ∷ fs) = by_both (stored (id_of c)) (number (id_of c)) refl (kept_found stored number fs)
  where
    by_both : (o p : Option ℕ) → number (id_of c) ≡ p → kept (found stored number) fs ≡ left_by number (kept stored fs)
        → candidates (verdict_if_stored (option_or o (number (id_of c))) c ∷ map (verdict_behind (found stored number)) fs) ≡ left_by number (candidates (verdict_if_stored o c ∷ map (verdict_behind stored) fs))
    by_both (Some n) p is later = later
    by_both None None is later = rw is (ap (λ (l : List Candidate). c ∷ l) later)
    by_both None (Some n) is later = rw is later

-- ---- candidates have games, and different ids

game_fresh : (earlier : List Candidate) (place : ℕ) (text : List ℕ) (game : Game) (o : Option Candidate) (examinations : List Examination) → find (has_id_of game) earlier ≡ o → GameOf text (Ok game)
    → ((e : List Candidate) → Fresh e (candidates (verdicts_from e examinations)) × AreRead (candidates (verdicts_from e examinations)))
    → Fresh earlier (candidates (verdict_by o place text game ∷ verdicts_from (and_candidate earlier (verdict_by o place text game)) examinations))
    × AreRead (candidates (verdict_by o place text game ∷ verdicts_from (and_candidate earlier (verdict_by o place text game)) examinations))
game_fresh earlier place text game None examinations is read later = let rest = later (earlier ++ record { place = place; text = text; game = game } ∷ []) in ((is, rest.0), (read, rest.1))
game_fresh earlier place text game (Some first) examinations is read later = later earlier

read_fresh : (earlier : List Candidate) (place : ℕ) (text : List ℕ) (game : Result Game GameFault) (examinations : List Examination) → GameOf text game
    → ((e : List Candidate) → Fresh e (candidates (verdicts_from e examinations)) × AreRead (candidates (verdicts_from e examinations)))
    → Fresh earlier (candidates (verdict_of_game earlier place text game ∷ verdicts_from (and_candidate earlier (verdict_of_game earlier place text game)) examinations))
    × AreRead (candidates (verdict_of_game earlier place text game ∷ verdicts_from (and_candidate earlier (verdict_of_game earlier place text game)) examinations))
read_fresh earlier place text (Err fault) examinations read later = later earlier
read_fresh earlier place text (Ok game) examinations read later = game_fresh earlier place text game (find (has_id_of game) earlier) examinations refl read later

pub fresh : (cuts : List Cut) (earlier : List Candidate) (examinations : List Examination) → AllZip IsExaminationOf cuts examinations
    → Fresh earlier (candidates (verdicts_from earlier examinations)) × AreRead (candidates (verdicts_from earlier examinations))
unfolding verdicts_from
fresh [] earlier [] each = (tt, tt)
fresh [] earlier (examination ∷ examinations) each = absurd each
fresh (cut ∷ cuts) earlier [] each = absurd each
fresh (cut ∷ cuts) earlier (examination ∷ examinations) each = by_cut cut each.0 (λ e. fresh cuts e examinations each.1)
  where
    by_cut : (cut : Cut) → IsExaminationOf cut examination → ((e : List Candidate) → Fresh e (candidates (verdicts_from e examinations)) × AreRead (candidates (verdicts_from e examinations)))
        → Fresh earlier (candidates (verdict_of earlier examination ∷ verdicts_from (and_candidate earlier (verdict_of earlier examination)) examinations))
        × AreRead (candidates (verdict_of earlier examination ∷ verdicts_from (and_candidate earlier (verdict_of earlier examination)) examinations))
    by_cut (Text text) is later =
        let P : Examination → Type 0 = λ examination. Fresh earlier (candidates (verdict_of earlier examination ∷ verdicts_from (and_candidate earlier (verdict_of earlier examination)) examinations))
        × AreRead (candidates (verdict_of earlier examination ∷ verdicts_from (and_candidate earlier (verdict_of earlier examination)) examinations)) in
        subst P (sym is.2) (read_fresh earlier text.place text.bytes is.0 examinations is.1 later)
    by_cut (TooLong place long) is later =
        let P : Examination → Type 0 = λ examination. Fresh earlier (candidates (verdict_of earlier examination ∷ verdicts_from (and_candidate earlier (verdict_of earlier examination)) examinations))
        × AreRead (candidates (verdict_of earlier examination ∷ verdicts_from (and_candidate earlier (verdict_of earlier examination)) examinations)) in
        subst P (sym is) (later earlier)
    by_cut (Preamble place) is later =
        let P : Examination → Type 0 = λ examination. Fresh earlier (candidates (verdict_of earlier examination ∷ verdicts_from (and_candidate earlier (verdict_of earlier examination)) examinations))
        × AreRead (candidates (verdict_of earlier examination ∷ verdicts_from (and_candidate earlier (verdict_of earlier examination)) examinations)) in
        subst P (sym is) (later earlier)

pub of_texts : (texts : List Placed) (examinations : List Examination) → AllZip IsExaminationOfText texts examinations → AllZip IsExaminationOf (map Text texts) examinations
of_texts [] [] each = tt
of_texts [] (examination ∷ examinations) each = absurd each
of_texts (text ∷ texts) [] each = absurd each
of_texts (text ∷ texts) (examination ∷ examinations) each = (each.0, of_texts texts examinations each.1)

-- the candidates of texts that were tallied are in hand
pub hand_made : (label : List ℕ) (texts : List Placed) (made : Tallying) (tally : Option Counted) → IsTallying texts made → tally ≡ option_map (under label) made.tally
    → IfSome tally (λ counted. InHand counted made.places.items)
hand_made label texts made tally is same =
    let P : Option Counted → Type 0 = λ t. IfSome t (λ counted. InHand counted made.places.items) in
    subst P (sym same) (by_tally made.tally is.tally)
  where
    by_tally : (tally : Option Counted) → IsTallyMade (candidates (verdicts is.examinations)) tally → IfSome (option_map (under label) tally) (λ counted. InHand counted made.places.items)
    by_tally None m = tt
    by_tally (Some counted) m =
        let all = fresh (map Text texts) [] is.examinations (of_texts texts is.examinations is.are_examinations) in
        record { candidates = candidates (verdicts is.examinations); counts = counts_under label (candidates (verdicts is.examinations)) counted m; places_are = is.places; read = all.1; fresh = all.0 }

-- ---- fewer candidates

find_fewer : (t p : Candidate → Bool) (xs : List Candidate) → find t xs ≡ None → find t (filter p xs) ≡ None
find_fewer t p [] none = refl
find_fewer t p (x ∷ xs) none = by_tests (t x) (p x) refl none (find_fewer t p xs)
  where
    some_none : (x : Candidate) → Some x ≡ None → ⊥
    some_none x e = cc

    by_tests : (b q : Bool) → t x ≡ b → cond b (Some x) (find t xs) ≡ None → (find t xs ≡ None → find t (filter p xs) ≡ None) → find t (cond q (x ∷ filter p xs) (filter p xs)) ≡ None
    by_tests true q is none later = absurd (some_none x none)
    by_tests false true is none later = ap (λ b. cond b (Some x) (find t (filter p xs))) is ∙ later none
    by_tests false false is none later = later none

pub fewer_fresh : (p : Candidate → Bool) (earlier cs : List Candidate) → Fresh earlier cs → Fresh (filter p earlier) (filter p cs)
fewer_fresh p earlier [] h = tt
fewer_fresh p earlier (c ∷ cs) h =
    by_test (p c) refl (let P : List Candidate → Type 0 = λ e. Fresh e (filter p cs) in subst P (filter-append p earlier (c ∷ [])) (fewer_fresh p (earlier ++ c ∷ []) cs h.1))
  where
    by_test : (b : Bool) → p c ≡ b → Fresh (filter p earlier ++ filter p (c ∷ [])) (filter p cs) → Fresh (filter p earlier) (cond b (c ∷ filter p cs) (filter p cs))
    by_test true is later =
        let P : Bool → Type 0 = λ b. Fresh (filter p earlier ++ cond b (c ∷ []) []) (filter p cs) in
        (find_fewer (has_id_of c.game) p earlier h.0, subst P is later)
    by_test false is later =
        let P : Bool → Type 0 = λ b. Fresh (filter p earlier ++ cond b (c ∷ []) []) (filter p cs) in
        let Q : List Candidate → Type 0 = λ e. Fresh e (filter p cs) in
        subst Q (append-nil (filter p earlier)) (subst P is later)

pub fewer_read : (p : Candidate → Bool) (cs : List Candidate) → AreRead cs → AreRead (filter p cs)
fewer_read p [] h = tt
fewer_read p (c ∷ cs) h = by_test (p c) (fewer_read p cs h.1)
  where
    by_test : (b : Bool) → AreRead (filter p cs) → AreRead (cond b (c ∷ filter p cs) (filter p cs))
    by_test true later = (h.0, later)
    by_test false later = later

-- ---- candidates that are tallied again

read_of : Candidate → Examination
read_of c = Read (record { place = c.place; text = c.text; game = Ok c.game })

again_examinations : OneGame → (cs : List Candidate) (examinations : List Examination) → AreRead cs → AllZip IsExaminationOfText (map placed cs) examinations → examinations ≡ map read_of cs
unfolding read_of
again_examinations one [] [] read each = refl
again_examinations one [] (examination ∷ examinations) read each = absurd each
again_examinations one (c ∷ cs) [] read each = absurd each
again_examinations one (c ∷ cs) (examination ∷ examinations) read each =
    let game = one c.text each.0.0 (Ok c.game) each.0.1 read.0 in
    let head : examination ≡ read_of c = each.0.2 ∙ ap (λ game. Read (record { place = c.place; text = c.text; game = game })) game in
    let tail = again_examinations one cs examinations read.1 each.1 in
    λ i. head i ∷ tail i

again_verdicts : (earlier cs : List Candidate) → Fresh earlier cs → verdicts_from earlier (map read_of cs) ≡ map Accepted cs
unfolding verdicts_from read_of
again_verdicts earlier [] h = refl
again_verdicts earlier (c ∷ cs) h = by_found (find (has_id_of c.game) earlier) h.0 (again_verdicts (earlier ++ c ∷ []) cs h.1)
  where
    some_none : (x : Candidate) → Some x ≡ None → ⊥
    some_none x e = cc

    by_found : (o : Option Candidate) → o ≡ None → verdicts_from (earlier ++ c ∷ []) (map read_of cs) ≡ map Accepted cs
        → verdict_by o c.place c.text c.game ∷ verdicts_from (and_candidate earlier (verdict_by o c.place c.text c.game)) (map read_of cs) ≡ Accepted c ∷ map Accepted cs
    by_found (Some first) none later = absurd (some_none first none)
    by_found None none later = ap (λ (l : List Verdict). Accepted c ∷ l) later

candidates_all : (cs : List Candidate) → candidates (map Accepted cs) ≡ cs
candidates_all [] = refl
candidates_all (c ∷ cs) = ap (λ (l : List Candidate). c ∷ l) (candidates_all cs)

refusals_none : (cs : List Candidate) → refusals (map Accepted cs) ≡ []
refusals_none [] = refl
refusals_none (c ∷ cs) = refusals_none cs

pub again : OneGame → (cs : List Candidate) (examinations : List Examination) → AreRead cs → Fresh [] cs → AllZip IsExaminationOfText (map placed cs) examinations → (candidates (verdicts examinations) ≡ cs) × (refusals (verdicts examinations) ≡ [])
again one cs examinations read h each =
    let is : verdicts examinations ≡ map Accepted cs = ap verdicts (again_examinations one cs examinations read each) ∙ again_verdicts [] cs h in
    (ap candidates is ∙ candidates_all cs, ap refusals is ∙ refusals_none cs)

-- ---- no id is stored

pub settled_none : (fs : List Verdict) → map (verdict_behind (λ id. None)) fs ≡ fs
settled_none [] = refl
settled_none (Accepted c ∷ fs) = ap (λ (l : List Verdict). Accepted c ∷ l) (settled_none fs)
settled_none (Refused refusal ∷ fs) = ap (λ (l : List Verdict). Refused refusal ∷ l) (settled_none fs)

-- ---- which ids are stored

pub same_settled : (stored number : Numbering) (fs : List Verdict) → AllByRecursion (λ c. stored (id_of c) ≡ number (id_of c)) (candidates fs) → map (verdict_behind stored) fs ≡ map (verdict_behind number) fs
same_settled stored number [] each = refl
same_settled stored number (Refused refusal ∷ fs) each = ap (λ (l : List Verdict). Refused refusal ∷ l) (same_settled stored number fs each)
same_settled stored number (Accepted c ∷ fs) each =
    let tail = same_settled stored number fs each.1 in
    let head = each.0 in
    λ i. verdict_if_stored (head i) c ∷ tail i

-- where each number that was found is right, and none of the kept candidates has one
pub exact : (stored number : Numbering) (fs : List Verdict) → ((id : List ℕ) (n : ℕ) → stored id ≡ Some n → number id ≡ Some n)
    → AllByRecursion (λ c. number (id_of c) ≡ None) (kept stored fs) → AllByRecursion (λ c. stored (id_of c) ≡ number (id_of c)) (candidates fs)
exact stored number [] right none = tt
exact stored number (Refused refusal ∷ fs) right none = exact stored number fs right none
exact stored number (Accepted c ∷ fs) right none = by_stored (stored (id_of c)) refl none (exact stored number fs right)
  where
    by_stored : (o : Option ℕ) → stored (id_of c) ≡ o → AllByRecursion (λ c. number (id_of c) ≡ None) (candidates (verdict_if_stored o c ∷ map (verdict_behind stored) fs))
        → (AllByRecursion (λ c. number (id_of c) ≡ None) (kept stored fs) → AllByRecursion (λ c. stored (id_of c) ≡ number (id_of c)) (candidates fs))
        → (stored (id_of c) ≡ number (id_of c)) × AllByRecursion (λ c. stored (id_of c) ≡ number (id_of c)) (candidates fs)
    by_stored None is none later = (is ∙ sym none.0, later none.1)
    by_stored (Some n) is none later = (is ∙ sym (right (id_of c) n is), later none)

pub kept-left : (stored : Numbering) (fs : List Verdict) → kept stored fs ≡ left_by stored (candidates fs)
kept-left stored [] = refl
kept-left stored (Refused refusal ∷ fs) = kept-left stored fs
kept-left stored (Accepted c ∷ fs) = by_stored (stored (id_of c)) (kept-left stored fs)
  where
    by_stored : (o : Option ℕ) → kept stored fs ≡ left_by stored (candidates fs) → candidates (verdict_if_stored o c ∷ map (verdict_behind stored) fs) ≡ cond (is_none o) (c ∷ left_by stored (candidates fs)) (left_by stored (candidates fs))
    by_stored None later = ap (λ (l : List Candidate). c ∷ l) later
    by_stored (Some n) later = later

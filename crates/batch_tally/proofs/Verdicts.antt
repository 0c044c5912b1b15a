-- What becomes of one text more.
use Rattle.std.proofs.Common.{◌≡◌, ◌++◌, ◌+◌, ◌<◌, ℕ, false, if◌then◌else◌, List, [], ◌∷◌, Some, map, find, drop, length, get_or, sym, ap, ◌∙◌, subst, refl}
use Rattle.std.proofs.lemmas.List.{append_assoc, append-nil, map_push, get_or-map, drop_more}
use Rattle.explorer_model.specs.declared.fault.Refusal.{Refusal}
use Rattle.explorer_model.specs.declared.archive.Game.{Game}
use Rattle.explorer_model.specs.Imports.{has_id_of, Candidate, Examination, Accepted, Refused, verdict_of, verdicts, verdicts_from, and_candidate, candidates, refusals}
use Rattle.batch_tally.specs.declared.accepting.Accepted.{Accepted as Kept}
use Rattle.batch_tally.specs.declared.reading.Reading.{Reading}
use Rattle.batch_tally.specs.Accepting.{candidate_as, id_word_of}
use Rattle.batch_tally.specs.Reading.{examination_as}

-- what is accepted and refused so far, and what becomes of the rest behind it, are what becomes of all
pub record Sorting (all : List Reading) (done : List Kept) (refused : List Refusal) (left : List Reading) : Type 0 where
  pub accepted : candidates (verdicts (map examination_as all)) ≡ map candidate_as done ++ candidates (verdicts_from (map candidate_as done) (map examination_as left))
  pub refusals_are : refusals (verdicts (map examination_as all)) ≡ refused ++ refusals (verdicts_from (map candidate_as done) (map examination_as left))

-- the words of the ids of one text more
pub words-more : (words more : List ℕ) (word : ℕ) (done next : List Kept) (y : Kept) → words ≡ map id_word_of done → more ≡ words ++ word ∷ []
    → word ≡ id_word_of y → next ≡ done ++ y ∷ [] → more ≡ map id_word_of next
words-more words more word done next y so_far pushed is grown =
    pushed ∙ (λ i. so_far i ++ is i ∷ []) ∙ sym (map_push id_word_of done y) ∙ ap (λ l. map id_word_of l) (sym grown)

pub word-at : (words : List ℕ) (done : List Kept) (place d : ℕ) (a : Kept) → words ≡ map id_word_of done → place < length done → a ≡ get_or done place a
    → get_or words place d ≡ id_word_of a
word-at words done place d a are below is =
    ap (λ l. get_or l place d) are ∙ get_or-map id_word_of done place a d below ∙ ap id_word_of (sym is)

-- a text that has another id is passed over
pub id-passed : (game : Game) (done : List Kept) (place : ℕ) (a : Kept) → place < length done → a ≡ get_or done place a
    → has_id_of game (candidate_as a) ≡ false
    → find (has_id_of game) (map candidate_as done) ≡ find (has_id_of game) (map candidate_as (drop place done))
    → find (has_id_of game) (map candidate_as done) ≡ find (has_id_of game) (map candidate_as (drop (place + 1) done))
id-passed game done place a below is other so_far =
    so_far
    ∙ ap (λ l. find (has_id_of game) (map candidate_as l)) (drop_more done place a below)
    ∙ ap (λ (x : Kept). find (has_id_of game) (candidate_as x ∷ map candidate_as (drop (place + 1) done))) (sym is)
    ∙ ap (λ b. if b then Some (candidate_as a) else find (has_id_of game) (map candidate_as (drop (place + 1) done))) other

pub begins : (all : List Reading) (done : List Kept) (refused : List Refusal) (left : List Reading) → done ≡ [] → refused ≡ [] → left ≡ all
    → Sorting all done refused left
begins all done refused left none no_refusal whole =
    let D : List Kept → Type 0 = λ d. Sorting all d refused left in
    let R : List Refusal → Type 0 = λ r. Sorting all [] r left in
    let L : List Reading → Type 0 = λ l. Sorting all [] [] l in
    subst D (sym none) (subst R (sym no_refusal) (subst L (sym whole) (record { accepted = refl; refusals_are = refl })))

accepted-candidates : (earlier : List Candidate) (examination : Examination) (rest : List Examination) (candidate : Candidate) → verdict_of earlier examination ≡ Accepted candidate
    → candidates (verdicts_from earlier (examination ∷ rest)) ≡ candidate ∷ candidates (verdicts_from (earlier ++ candidate ∷ []) rest)
unfolding verdicts_from
accepted-candidates earlier examination rest candidate is = ap (λ f. candidates (f ∷ verdicts_from (and_candidate earlier f) rest)) is

accepted-refusals : (earlier : List Candidate) (examination : Examination) (rest : List Examination) (candidate : Candidate) → verdict_of earlier examination ≡ Accepted candidate
    → refusals (verdicts_from earlier (examination ∷ rest)) ≡ refusals (verdicts_from (earlier ++ candidate ∷ []) rest)
unfolding verdicts_from
accepted-refusals earlier examination rest candidate is = ap (λ f. refusals (f ∷ verdicts_from (and_candidate earlier f) rest)) is

refused-candidates : (earlier : List Candidate) (examination : Examination) (rest : List Examination) (refusal : Refusal) → verdict_of earlier examination ≡ Refused refusal
    → candidates (verdicts_from earlier (examination ∷ rest)) ≡ candidates (verdicts_from earlier rest)
unfolding verdicts_from
refused-candidates earlier examination rest refusal is = ap (λ f. candidates (f ∷ verdicts_from (and_candidate earlier f) rest)) is

refused-refusals : (earlier : List Candidate) (examination : Examination) (rest : List Examination) (refusal : Refusal) → verdict_of earlier examination ≡ Refused refusal
    → refusals (verdicts_from earlier (examination ∷ rest)) ≡ refusal ∷ refusals (verdicts_from earlier rest)
unfolding verdicts_from
refused-refusals earlier examination rest refusal is = ap (λ f. refusals (f ∷ verdicts_from (and_candidate earlier f) rest)) is

pub one-accepted : (all : List Reading) (done next : List Kept) (refused : List Refusal) (left more : List Reading) (x : Reading) (y : Kept)
    → left ≡ x ∷ more → next ≡ done ++ y ∷ [] → Accepted (candidate_as y) ≡ verdict_of (map candidate_as done) (examination_as x)
    → Sorting all done refused left → Sorting all next refused more
one-accepted all done next refused left more x y first pushed is sorting =
    let earlier : List Candidate = map candidate_as done in
    let rest : List Examination = map examination_as more in
    let more_of : map candidate_as next ≡ earlier ++ candidate_as y ∷ [] = ap (λ l. map candidate_as l) pushed ∙ map_push candidate_as done y in
    let left_is : map examination_as left ≡ examination_as x ∷ rest = ap (λ l. map examination_as l) first in
    let step = accepted-candidates earlier (examination_as x) rest (candidate_as y) (sym is) in
    let none = accepted-refusals earlier (examination_as x) rest (candidate_as y) (sym is) in
    record {
      accepted = sorting.accepted
          ∙ ap (λ l. earlier ++ candidates (verdicts_from earlier l)) left_is
          ∙ ap (λ l. earlier ++ l) step
          ∙ sym (append_assoc earlier (candidate_as y ∷ []) (candidates (verdicts_from (earlier ++ candidate_as y ∷ []) rest)))
          ∙ ap (λ l. l ++ candidates (verdicts_from l rest)) (sym more_of);
      refusals_are = sorting.refusals_are
          ∙ ap (λ l. refused ++ refusals (verdicts_from earlier l)) left_is
          ∙ ap (λ l. refused ++ l) none
          ∙ ap (λ l. refused ++ refusals (verdicts_from l rest)) (sym more_of);
    }

pub one-refused : (all : List Reading) (done : List Kept) (refused next : List Refusal) (left more : List Reading) (x : Reading) (y : Refusal)
    → left ≡ x ∷ more → next ≡ refused ++ y ∷ [] → Refused y ≡ verdict_of (map candidate_as done) (examination_as x)
    → Sorting all done refused left → Sorting all done next more
one-refused all done refused next left more x y first pushed is sorting =
    let earlier : List Candidate = map candidate_as done in
    let rest : List Examination = map examination_as more in
    let left_is : map examination_as left ≡ examination_as x ∷ rest = ap (λ l. map examination_as l) first in
    let none = refused-candidates earlier (examination_as x) rest y (sym is) in
    let step = refused-refusals earlier (examination_as x) rest y (sym is) in
    record {
      accepted = sorting.accepted
          ∙ ap (λ l. earlier ++ candidates (verdicts_from earlier l)) left_is
          ∙ ap (λ l. earlier ++ l) none;
      refusals_are = sorting.refusals_are
          ∙ ap (λ l. refused ++ refusals (verdicts_from earlier l)) left_is
          ∙ ap (λ l. refused ++ l) step
          ∙ sym (append_assoc refused (y ∷ []) (refusals (verdicts_from earlier rest)))
          ∙ ap (λ l. l ++ refusals (verdicts_from earlier rest)) (sym pushed);
    }

pub ends-accepted : (all : List Reading) (done : List Kept) (refused : List Refusal) (left : List Reading) → left ≡ [] → Sorting all done refused left
    → map candidate_as done ≡ candidates (verdicts (map examination_as all))
unfolding verdicts_from
ends-accepted all done refused left none sorting =
    sym (sorting.accepted ∙ ap (λ l. map candidate_as done ++ candidates (verdicts_from (map candidate_as done) (map examination_as l))) none ∙ append-nil (map candidate_as done))

pub ends-refused : (all : List Reading) (done : List Kept) (refused : List Refusal) (left : List Reading) → left ≡ [] → Sorting all done refused left
    → refused ≡ refusals (verdicts (map examination_as all))
unfolding verdicts_from
ends-refused all done refused left none sorting =
    sym (sorting.refusals_are ∙ ap (λ l. refused ++ refusals (verdicts_from (map candidate_as done) (map examination_as l))) none ∙ append-nil refused)

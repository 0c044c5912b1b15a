-- What tallying answers, put together.
use Rattle.std.proofs.Common.{◌≡◌, ◌≢◌, ◌≤◌, ℕ, zero, suc, List, [], ◌∷◌, map, length, Result, sym, ap, ◌∙◌, subst, arith}
use Rattle.std.specs.List.{All, AllByRecursion, AllPairs, AllZip}
use Rattle.std.proofs.lemmas.List.{length-map}
use Rattle.std.proofs.lemmas.List.Elements.{All-from_recursion, recursion_from_All, All-map}
use Rattle.std.proofs.lemmas.List.Kept.{AllPairs-cons}
use Rattle.std.proofs.lemmas.Slice.Zip.{AllZip-long}
use Rattle.explorer_model.specs.declared.archive.Classes.{Classes}
use Rattle.explorer_model.specs.declared.archive.Game.{Game}
use Rattle.explorer_model.specs.declared.archive.Placed.{Placed}
use Rattle.explorer_model.specs.declared.fault.GameFault.{GameFault}
use Rattle.explorer_model.specs.Cuts.{text_limit}
use Rattle.explorer_model.specs.Games.{GameOf}
use Rattle.explorer_model.specs.Imports.{Candidate, Read, verdicts, candidates, refusals}
use Rattle.explorer_model.specs.Visits.{IsTextOf}
use Rattle.explorer_model.specs.Journal.{HaveDifferentIds}
use Rattle.batch_tally.specs.declared.accepting.Accepted.{Accepted}
use Rattle.batch_tally.specs.declared.reading.Reading.{Reading}
use Rattle.batch_tally.specs.declared.tallying.Tallying.{Tallying}
use Rattle.batch_tally.specs.Accepting.{candidate_as, AreCandidates}
use Rattle.batch_tally.specs.Reading.{examination_as, HasCount, IsReadingOf}
use Rattle.batch_tally.specs.Tallying.{IsExaminationOfText, IsTallying, IsTallyMade}
use Rattle.batch_tally.proofs.Candidates.{OfGame, HaveOtherIds, each-candidate, no-more-candidates, different-ids}
use Rattle.batch_tally.proofs.Made.{classes-are}

pairs-map : {A B : Type 0} (R : B → B → Type 0) (f : A → B) (xs : List A) → AllPairs (λ a b. R (f a) (f b)) xs → AllPairs R (map f xs)
pairs-map R f [] pairs = λ i j d before below. absurd (omega (arith, below))
pairs-map R f (x ∷ xs) pairs =
    AllPairs-cons R (f x) (map f xs)
    (All-map (R (f x)) f xs (λ k d below. pairs zero (suc k) d (omega arith) (omega (arith, below))))
    (pairs-map R f xs (λ i j d before below. pairs (suc i) (suc j) d (omega (arith, before)) (omega (arith, below))))

-- ---- what is known of accepted texts

abbrev IsShortGame : List ℕ → Game → Type 0
IsShortGame text game = IsTextOf text game × (length text ≤ text_limit)

short-games : (texts : List Placed) (readings : List Reading) → AllZip IsReadingOf texts readings
    → AllByRecursion (λ text. length text.bytes ≤ text_limit) texts → AllByRecursion (OfGame IsShortGame) readings
short-games [] [] each short = tt
short-games [] (r ∷ readings) each short = absurd each
short-games (t ∷ texts) [] each short = absurd each
short-games (t ∷ texts) (r ∷ readings) each short = (
  λ game is. (
      let G : Result Game GameFault → Type 0 = λ g. GameOf t.bytes g in
      let T : List ℕ → Type 0 = λ bytes. IsShortGame bytes game in
      subst T (sym each.0.bytes) (subst G is each.0.game, short.0)),
  short-games texts readings each.1 short.1,
)

unmapped : (P : Candidate → Type 0) (accepted : List Accepted) → AllByRecursion P (map candidate_as accepted) → AllByRecursion (λ a. P (candidate_as a)) accepted
unmapped P [] each = tt
unmapped P (a ∷ accepted) each = (each.0, unmapped P accepted each.1)

first-of : (accepted : List Accepted) → AllByRecursion (λ a. IsShortGame a.text a.game) accepted → AllByRecursion (λ a. IsTextOf a.text a.game) accepted
first-of [] each = tt
first-of (a ∷ accepted) each = (each.0.0, first-of accepted each.1)

second-of : (accepted : List Accepted) → AllByRecursion (λ a. IsShortGame a.text a.game) accepted → AllByRecursion (λ a. length a.text ≤ text_limit) accepted
second-of [] each = tt
second-of (a ∷ accepted) each = (each.0.1, second-of accepted each.1)

pub are-candidates : (texts : List Placed) (readings : List Reading) (accepted : List Accepted)
    → length texts ≤ 512 → All (λ text. length text.bytes ≤ 65536) texts → AllZip IsReadingOf texts readings
    → map candidate_as accepted ≡ candidates (verdicts (map examination_as readings)) → AreCandidates accepted
are-candidates texts readings accepted few short each are =
    let P : Candidate → Type 0 = λ c. IsShortGame c.text c.game in
    let C : List Candidate → Type 0 = λ cs. AllByRecursion P cs in
    let D : List Candidate → Type 0 = λ cs. AllPairs HaveOtherIds cs in
    let K : List Classes → Type 0 = λ ks. HaveDifferentIds ks in
    let games = unmapped P accepted (subst C (sym are)
    (each-candidate IsShortGame [] readings (short-games texts readings each (recursion_from_All (λ text. length text.bytes ≤ 65536) texts short)))) in
    let many = ap (λ cs. length cs) are in
    let mapped = length-map accepted candidate_as in
    let fewer = no-more-candidates [] readings in
    let read = AllZip-long IsReadingOf texts readings each in
    record {
      few = omega (arith, many, mapped, fewer, read, few);
      games = All-from_recursion (λ a. IsTextOf a.text a.game) accepted (first-of accepted games);
      short = All-from_recursion (λ a. length a.text ≤ text_limit) accepted (second-of accepted games);
      different = subst K (sym (classes-are accepted))
          (pairs-map (λ a b. a.id.bytes ≢ b.id.bytes) (λ c. c.game.classes) (map candidate_as accepted) (subst D (sym are) (different-ids readings)));
    }

counted-each : (texts : List Placed) (readings : List Reading) → AllZip IsReadingOf texts readings → AllByRecursion HasCount readings
counted-each [] [] each = tt
counted-each [] (r ∷ readings) each = absurd each
counted-each (t ∷ texts) [] each = absurd each
counted-each (t ∷ texts) (r ∷ readings) each = (each.0.counted, counted-each texts readings each.1)

pub have-counts : (texts : List Placed) (readings : List Reading) → AllZip IsReadingOf texts readings → All HasCount readings
have-counts texts readings each = All-from_recursion HasCount readings (counted-each texts readings each)

-- ---- the answer

examinations-are : (texts : List Placed) (readings : List Reading) → AllZip IsReadingOf texts readings → AllZip IsExaminationOfText texts (map examination_as readings)
examinations-are [] [] each = tt
examinations-are [] (r ∷ readings) each = absurd each
examinations-are (t ∷ texts) [] each = absurd each
examinations-are (t ∷ texts) (r ∷ readings) each = (
  (r.game, each.0.game, λ i. Read (record { place = each.0.place i; text = each.0.bytes i; game = r.game })),
  examinations-are texts readings each.1,
)

pub is-tallying : (texts : List Placed) (readings : List Reading) (accepted lent : List Accepted) (tallying : Tallying)
    → AllZip IsReadingOf texts readings
    → map candidate_as accepted ≡ candidates (verdicts (map examination_as readings))
    → lent ≡ accepted
    → tallying.places.items ≡ map (λ c. c.place) (map candidate_as lent)
    → tallying.refused.items ≡ refusals (verdicts (map examination_as readings))
    → IsTallyMade (map candidate_as accepted) tallying.tally
    → IsTallying texts tallying
is-tallying texts readings accepted lent tallying each are borrowed places refused made =
    let T : List Candidate → Type 0 = λ cs. IsTallyMade cs tallying.tally in
    record {
      examinations = map examination_as readings;
      are_examinations = examinations-are texts readings each;
      places = places ∙ ap (λ l. map (λ c. c.place) (map candidate_as l)) borrowed ∙ ap (λ l. map (λ c. c.place) l) are;
      refused = refused;
      tally = subst T are made;
    }

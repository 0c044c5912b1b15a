-- What is known of the texts that are accepted.
use Rattle.std.proofs.Common.{◌≡◌, ◌≢◌, ◌++◌, ◌≤◌, ℕ, suc, Bool, true, false, true≢false, if◌then◌else◌, List, [], ◌∷◌, map, find, length, Option, Some, None, Result, Ok, Err, sym, ap, ◌∙◌, subst, refl, arith}
use Rattle.std.specs.List.{AllByRecursion, AllPairs}
use Rattle.std.proofs.lemmas.List.{append_assoc, append-nil}
use Rattle.std.proofs.lemmas.List.Elements.{All-from_recursion}
use Rattle.std.proofs.lemmas.List.Quantifiers.{all_pairs_push}
use Rattle.std.proofs.lemmas.Option.{none-some}
use Rattle.std.proofs.lemmas.Slice.Eq.{bytes_eq-Decides}
use Rattle.explorer_model.specs.declared.archive.Game.{Game}
use Rattle.explorer_model.specs.declared.fault.GameFault.{GameFault}
use Rattle.explorer_model.specs.declared.fault.Refusal.{Refusal}
use Rattle.explorer_model.specs.Imports.{Candidate, Replayed, Read, Verdict, Accepted, Refused, verdict_of, verdict_of_game, verdict_by, verdicts_from, and_candidate, candidates, has_id_of}
use Rattle.batch_tally.specs.declared.reading.Reading.{Reading}
use Rattle.batch_tally.specs.Reading.{examination_as}

abbrev IsAccepted : Verdict → Type 0
IsAccepted (Accepted c) = Unit {0}
IsAccepted (Refused r) = ⊥

refused-not-accepted : (r : Refusal) (c : Candidate) → Refused r ≡ Accepted c → ⊥
refused-not-accepted r c is = let P : Verdict → Type 0 = λ f. IsAccepted f in subst P (sym is) tt

abbrev accepted_or : Verdict → Candidate → Candidate
accepted_or (Accepted c) d = c
accepted_or (Refused r) d = d

-- a candidate is the text with its game, and no candidate before it has its id
pub record IsOf (earlier : List Candidate) (text : List ℕ) (game : Result Game GameFault) (c : Candidate) : Type 0 where
  pub text_is : c.text ≡ text
  pub game_is : game ≡ Ok c.game
  pub new : find (has_id_of c.game) earlier ≡ None

by-found : (earlier : List Candidate) (place : ℕ) (text : List ℕ) (game : Game) (found : Option Candidate) (c : Candidate)
    → find (has_id_of game) earlier ≡ found → verdict_by found place text game ≡ Accepted c → IsOf earlier text (Ok game) c
by-found earlier place text game None c none is =
    let same : record { place = place; text = text; game = game } ≡ c = ap (λ f. accepted_or f c) is in
    record {
      text_is = sym (ap (λ d. d.text) same);
      game_is = ap (λ d. Ok d.game) same;
      new = ap (λ d. find (has_id_of d.game) earlier) (sym same) ∙ none;
    }
by-found earlier place text game (Some first) c some is = absurd (refused-not-accepted _ c is)

by-game : (earlier : List Candidate) (place : ℕ) (text : List ℕ) (game : Result Game GameFault) (c : Candidate)
    → verdict_of_game earlier place text game ≡ Accepted c → IsOf earlier text game c
by-game earlier place text (Err fault) c is = absurd (refused-not-accepted _ c is)
by-game earlier place text (Ok game) c is = by-found earlier place text game (find (has_id_of game) earlier) c refl is

pub replayed-is : (earlier : List Candidate) (replayed : Replayed) (c : Candidate) → verdict_of earlier (Read replayed) ≡ Accepted c
    → IsOf earlier replayed.text replayed.game c
replayed-is earlier replayed c is = by-game earlier replayed.place replayed.text replayed.game c is

pub accepted-is : (earlier : List Candidate) (reading : Reading) (c : Candidate) → verdict_of earlier (examination_as reading) ≡ Accepted c
    → IsOf earlier reading.text reading.game c
accepted-is earlier reading c is = by-game earlier reading.place reading.text reading.game c is

-- ---- what holds of each candidate

cons-verdict : (P : Candidate → Type 0) (verdict : Verdict) (rest : List Verdict) → ((c : Candidate) → verdict ≡ Accepted c → P c)
    → AllByRecursion P (candidates rest) → AllByRecursion P (candidates (verdict ∷ rest))
cons-verdict P (Accepted c) rest each later = (each c refl, later)
cons-verdict P (Refused r) rest each later = later

-- of a reading with a game
abbrev pub OfGame : (List ℕ → Game → Type 0) → Reading → Type 0
OfGame P reading = (game : Game) → reading.game ≡ Ok game → P reading.text game

pub each-candidate : (P : List ℕ → Game → Type 0) (earlier : List Candidate) (readings : List Reading) → AllByRecursion (OfGame P) readings
    → AllByRecursion (λ c. P c.text c.game) (candidates (verdicts_from earlier (map examination_as readings)))
unfolding verdicts_from
each-candidate P earlier [] each = tt
each-candidate P earlier (reading ∷ readings) each =
    cons-verdict (λ c. P c.text c.game) (verdict_of earlier (examination_as reading)) (verdicts_from (and_candidate earlier (verdict_of earlier (examination_as reading))) (map examination_as readings))
    (λ c is. (let of = accepted-is earlier reading c is in let Q : List ℕ → Type 0 = λ t. P t c.game in subst Q (sym of.text_is) (each.0 c.game of.game_is)))
    (each-candidate P (and_candidate earlier (verdict_of earlier (examination_as reading))) readings each.1)

-- ---- how many there are

cons-fewer : (verdict : Verdict) (rest : List Verdict) (n : ℕ) → length (candidates rest) ≤ n → length (candidates (verdict ∷ rest)) ≤ suc n
cons-fewer (Accepted c) rest n few = omega (arith, few)
cons-fewer (Refused r) rest n few = omega (arith, few)

pub no-more-candidates : (earlier : List Candidate) (readings : List Reading) → length (candidates (verdicts_from earlier (map examination_as readings))) ≤ length readings
unfolding verdicts_from
no-more-candidates earlier [] = omega arith
no-more-candidates earlier (reading ∷ readings) =
    cons-fewer (verdict_of earlier (examination_as reading)) (verdicts_from (and_candidate earlier (verdict_of earlier (examination_as reading))) (map examination_as readings)) (length readings)
    (no-more-candidates (and_candidate earlier (verdict_of earlier (examination_as reading))) readings)

-- ---- their ids

abbrev pub HaveOtherIds : Candidate → Candidate → Type 0
HaveOtherIds a b = a.game.classes.id.bytes ≢ b.game.classes.id.bytes

none-by : (c e : Candidate) (earlier : List Candidate) → (find (has_id_of c.game) earlier ≡ None → AllByRecursion (λ d. HaveOtherIds d c) earlier)
    → (b : Bool) → has_id_of c.game e ≡ b → (if b then Some e else find (has_id_of c.game) earlier) ≡ None
    → AllByRecursion (λ d. HaveOtherIds d c) (e ∷ earlier)
none-by c e earlier later true is none = absurd (none-some e (sym none))
none-by c e earlier later false is none =
    ((λ same. true≢false (sym ((bytes_eq-Decides e.game.classes.id.bytes c.game.classes.id.bytes).1 same) ∙ is)), later none)

none-found : (c : Candidate) (earlier : List Candidate) → find (has_id_of c.game) earlier ≡ None → AllByRecursion (λ e. HaveOtherIds e c) earlier
none-found c [] none = tt
none-found c (e ∷ earlier) none = none-by c e earlier (none-found c earlier) (has_id_of c.game e) refl none

new-id : (c : Candidate) (earlier : List Candidate) → find (has_id_of c.game) earlier ≡ None → AllPairs HaveOtherIds earlier
    → AllPairs HaveOtherIds (earlier ++ c ∷ [])
new-id c earlier none different =
    let others = All-from_recursion (λ e. HaveOtherIds e c) earlier (none-found c earlier none) in
    all_pairs_push HaveOtherIds earlier c different (λ k d below. others k d below)

ids-by : (earlier : List Candidate) (verdict : Verdict) (rest : List Verdict) → ((c : Candidate) → verdict ≡ Accepted c → AllPairs HaveOtherIds (earlier ++ c ∷ []))
    → AllPairs HaveOtherIds earlier
    → (AllPairs HaveOtherIds (and_candidate earlier verdict) → AllPairs HaveOtherIds (and_candidate earlier verdict ++ candidates rest))
    → AllPairs HaveOtherIds (earlier ++ candidates (verdict ∷ rest))
ids-by earlier (Accepted c) rest pushed different later =
    let P : List Candidate → Type 0 = λ cs. AllPairs HaveOtherIds cs in
    subst P (append_assoc earlier (c ∷ []) (candidates rest)) (later (pushed c refl))
ids-by earlier (Refused r) rest pushed different later = later different

ids-differ : (earlier : List Candidate) (readings : List Reading) → AllPairs HaveOtherIds earlier
    → AllPairs HaveOtherIds (earlier ++ candidates (verdicts_from earlier (map examination_as readings)))
unfolding verdicts_from
ids-differ earlier [] different = let P : List Candidate → Type 0 = λ cs. AllPairs HaveOtherIds cs in subst P (sym (append-nil earlier)) different
ids-differ earlier (reading ∷ readings) different =
    ids-by earlier (verdict_of earlier (examination_as reading)) (verdicts_from (and_candidate earlier (verdict_of earlier (examination_as reading))) (map examination_as readings))
    (λ c is. new-id c earlier (accepted-is earlier reading c is).new different)
    different
    (λ more. ids-differ (and_candidate earlier (verdict_of earlier (examination_as reading))) readings more)

none-differ : AllPairs HaveOtherIds []
none-differ = λ i j d before below. absurd (omega (arith, below))

pub different-ids : (readings : List Reading) → AllPairs HaveOtherIds (candidates (verdicts_from [] (map examination_as readings)))
different-ids readings = ids-differ [] readings none-differ

-- The singles of a game, one after another.
use Rattle.std.proofs.Common.{◌≡◌, ◌++◌, ◌+◌, ◌<◌, ◌≤◌, ℕ, suc, Bool, true, false, if◌then◌else◌, List, [], ◌∷◌, map, take, drop, length, get_or, sym, ap, ◌∙◌, refl}
use Rattle.std.specs.List.{list_any}
use Rattle.std.proofs.lemmas.List.{append_assoc, append-nil, map_push}
use Rattle.std.proofs.Math.Seq.{drop-cons, take-suc}
use Rattle.std.proofs.Math.ListN.{drop_of_length-le}
use Rattle.std.proofs.Math.Numerals.{suc-eq-add-one}
use Rattle.explorer_model.specs.declared.archive.Classes.{Classes}
use Rattle.tally_rows.specs.declared.single.Single.{Single}
use Rattle.tally_rows.specs.Games.{has_key, first_steps, single_at}
use Rattle.tally_rows.specs.Track as tracks
use Rattle.batch_tally.specs.declared.step.Step.{Step}
use Rattle.batch_tally.specs.Steps.{step_as}

-- what the steps from a place on give behind those before it
abbrev pub left_from : Classes → ℕ → List Step → ℕ → List Single
left_from classes number steps place =
    map (single_at classes number) (first_steps (map step_as (take place steps)) (map step_as (drop place steps)))

-- the singles so far, with what the rest gives, are those before and all of the game
pub record Pushing (classes : Classes) (number : ℕ) (steps : List Step) (before now : List Single) (place : ℕ) : Type 0 where
  pub whole : before ++ left_from classes number steps 0 ≡ now ++ left_from classes number steps place

place-of : (steps : List Step) (place : ℕ) (step : Step) → place < length steps → get_or steps place step ≡ step
    → drop place steps ≡ step ∷ drop (place + 1) steps
place-of steps place step below is =
    drop-cons steps place step below ∙ ap (λ s. s ∷ drop (suc place) steps) is ∙ ap (λ n. step ∷ drop n steps) (suc-eq-add-one place)

pub before-of : (steps : List Step) (place : ℕ) (step : Step) → place < length steps → get_or steps place step ≡ step
    → take (place + 1) steps ≡ take place steps ++ step ∷ []
before-of steps place step below is =
    ap (λ n. take n steps) (sym (suc-eq-add-one place)) ∙ take-suc steps place step below ∙ ap (λ s. take place steps ++ s ∷ []) is

-- what is left at a step, by whether an earlier one has its key
abbrev pub left_at : Classes → ℕ → List tracks.Step → tracks.Step → List tracks.Step → Bool → List Single
left_at classes number earlier step steps known =
    map (single_at classes number) (if known then first_steps (earlier ++ step ∷ []) steps else step ∷ first_steps (earlier ++ step ∷ []) steps)

left-at : (classes : Classes) (number : ℕ) (steps : List Step) (place : ℕ) (step : Step) → place < length steps → get_or steps place step ≡ step
    → left_from classes number steps place
    ≡ left_at classes number (map step_as (take place steps)) (step_as step) (map step_as (drop (place + 1) steps)) (list_any (has_key step.key) (map step_as (take place steps)))
left-at classes number steps place step below is =
    ap (λ l. map (single_at classes number) (first_steps (map step_as (take place steps)) (map step_as l))) (place-of steps place step below is)

left-next : (classes : Classes) (number : ℕ) (steps : List Step) (place : ℕ) (step : Step) → place < length steps → get_or steps place step ≡ step
    → map (single_at classes number) (first_steps (map step_as (take place steps) ++ step_as step ∷ []) (map step_as (drop (place + 1) steps)))
    ≡ left_from classes number steps (place + 1)
left-next classes number steps place step below is =
    ap (λ l. map (single_at classes number) (first_steps l (map step_as (drop (place + 1) steps))))
    (sym (map_push step_as (take place steps) step) ∙ ap (λ l. map step_as l) (sym (before-of steps place step below is)))

pub known-step : (classes : Classes) (number : ℕ) (steps : List Step) (before now : List Single) (place : ℕ) (step : Step)
    → place < length steps → get_or steps place step ≡ step
    → list_any (has_key step.key) (map step_as (take place steps)) ≡ true
    → Pushing classes number steps before now place → Pushing classes number steps before now (place + 1)
known-step classes number steps before now place step below is known pushing = record {
  whole = pushing.whole ∙ ap (λ l. now ++ l) (
      left-at classes number steps place step below is
      ∙ ap (left_at classes number (map step_as (take place steps)) (step_as step) (map step_as (drop (place + 1) steps))) known
      ∙ left-next classes number steps place step below is);
}

pub new-step : (classes : Classes) (number : ℕ) (steps : List Step) (before now more : List Single) (place : ℕ) (step : Step)
    → place < length steps → get_or steps place step ≡ step
    → list_any (has_key step.key) (map step_as (take place steps)) ≡ false
    → more ≡ now ++ single_at classes number (step_as step) ∷ []
    → Pushing classes number steps before now place → Pushing classes number steps before more (place + 1)
new-step classes number steps before now more place step below is unknown pushed pushing = record {
  whole = pushing.whole
      ∙ ap (λ l. now ++ l) (
      left-at classes number steps place step below is
      ∙ ap (left_at classes number (map step_as (take place steps)) (step_as step) (map step_as (drop (place + 1) steps))) unknown
      ∙ ap (λ l. single_at classes number (step_as step) ∷ l) (left-next classes number steps place step below is))
      ∙ sym (append_assoc now (single_at classes number (step_as step) ∷ []) (left_from classes number steps (place + 1)))
      ∙ ap (λ l. l ++ left_from classes number steps (place + 1)) (sym pushed);
}

pub all-pushed : (classes : Classes) (number : ℕ) (steps : List Step) (before now : List Single) (place : ℕ) → length steps ≤ place
    → Pushing classes number steps before now place → now ≡ before ++ map (single_at classes number) (first_steps [] (map step_as steps))
all-pushed classes number steps before now place past pushing =
    let none : left_from classes number steps place ≡ [] =
    ap (λ l. map (single_at classes number) (first_steps (map step_as (take place steps)) (map step_as l))) (drop_of_length-le steps past) in
    sym (pushing.whole ∙ ap (λ l. now ++ l) none ∙ append-nil now)

pub starts-pushing : (classes : Classes) (number : ℕ) (steps : List Step) (now : List Single) → Pushing classes number steps now now 0
starts-pushing classes number steps now = record { whole = refl }

-- The singles of one game.
use Rattle.std.proofs.Common.{◌≡◌, ◌++◌, ◌≤◌, ℕ, zero, suc, true, false, if◌then◌else◌, List, [], ◌∷◌, map, take, length, ap, ◌∙◌, refl, arith}
use Rattle.std.specs.List.{AllZip, list_any}
use Rattle.std.proofs.lemmas.List.{length-map}
use Rattle.explorer_model.specs.declared.archive.Game.{Game}
use Rattle.explorer_model.specs.Visits.{Stage, stages, stage_limit, counted_stages}
use Rattle.tally_rows.specs.Games.{has_key, first_steps, single_at}
use Rattle.tally_rows.specs.Tally.{IsStepOf}
use Rattle.tally_rows.specs.Track as tracks
use Rattle.tally_rows.specs.Track.{Track}
use Rattle.batch_tally.specs.declared.step.Step.{Step}
use Rattle.tally_rows.specs.declared.single.Single.{Single}
use Rattle.batch_tally.specs.Singles.{ArePushed, AreSinglesOf}
use Rattle.batch_tally.specs.Steps.{step_as, IsStepAt, stages_within}

are-steps : (stages : List Stage) (steps : List Step) → AllZip IsStepAt stages steps → AllZip IsStepOf stages (map step_as steps)
are-steps [] [] each = tt
are-steps [] (step ∷ steps) each = absurd each
are-steps (stage ∷ stages) [] each = absurd each
are-steps (stage ∷ stages) (step ∷ steps) each = (each.0, are-steps stages steps each.1)

few-steps : (stages : List Stage) (steps : List Step) → AllZip IsStepAt stages steps → length steps ≡ length stages
few-steps [] [] each = refl
few-steps [] (step ∷ steps) each = absurd each
few-steps (stage ∷ stages) [] each = absurd each
few-steps (stage ∷ stages) (step ∷ steps) each = ap suc (few-steps stages steps each.1)

length-take-le : {X : Type 0} (n : ℕ) (xs : List X) → length (take n xs) ≤ n
length-take-le zero xs = omega arith
length-take-le (suc n) [] = omega arith
length-take-le (suc n) (x ∷ xs) = let rest = length-take-le n xs in omega (arith, rest)

first-steps-le : (earlier steps : List tracks.Step) → length (first_steps earlier steps) ≤ length steps
first-steps-le earlier [] = omega arith
first-steps-le earlier (step ∷ steps) =
    let rest = first-steps-le (earlier ++ step ∷ []) steps in
    elim (list_any (has_key step.key) earlier) as (λ b. length (if b then first_steps (earlier ++ step ∷ []) steps else step ∷ first_steps (earlier ++ step ∷ []) steps) ≤ length (step ∷ steps)) [
      | true ↦ omega (arith, rest)
      | false ↦ omega (arith, rest)
    ]

pub singles-of : (game : Game) (steps : List Step) (singles : List Single) → AllZip IsStepAt (stages_within stage_limit game.root game.moves) steps
    → singles ≡ map (single_at game.classes 0) (first_steps [] (map step_as steps)) → AreSinglesOf game singles
singles-of game steps singles stepped are =
    let track : Track = record { classes = game.classes; steps = map step_as steps } in
    let steps_few : length steps ≤ 51 = (let e = few-steps (stages_within stage_limit game.root game.moves) steps stepped in
    let f = length-take-le stage_limit (stages game.root game.moves) in omega (arith, e, f)) in
    let firsts = first-steps-le [] (map step_as steps) in
    let mapped = length-map steps step_as in
    let many = ap (λ l. length l) are in
    let of_firsts = length-map (first_steps [] (map step_as steps)) (single_at game.classes 0) in
    record {
      track = track;
      counts = record { is_track = record { classes = refl; steps = are-steps (counted_stages game) steps stepped }; singles_are = are };
      few = omega (arith, many, of_firsts, firsts, mapped, steps_few);
    }

pub singles-pushed : (game : Game) (steps lent : List Step) (before after : List Single) → AllZip IsStepAt (stages_within stage_limit game.root game.moves) steps → lent ≡ steps
    → after ≡ before ++ map (single_at game.classes 0) (first_steps [] (map step_as lent)) → ArePushed game before after
singles-pushed game steps lent before after stepped same pushed = record {
  own = map (single_at game.classes 0) (first_steps [] (map step_as steps));
  are_own = singles-of game steps (map (single_at game.classes 0) (first_steps [] (map step_as steps))) stepped refl;
  pushed = pushed ∙ ap (λ l. before ++ map (single_at game.classes 0) (first_steps [] (map step_as l))) same;
}

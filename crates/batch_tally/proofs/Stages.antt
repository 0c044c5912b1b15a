-- The steps of a game, one after another.
use Rattle.std.proofs.Common.{◌≡◌, ◌++◌, ◌+◌, ◌-◌, ◌<◌, ◌≤◌, ℕ, zero, suc, List, [], ◌∷◌, take, drop, Option, Some, None, sym, ap, ◌∙◌, subst, refl, arith}
use Rattle.std.specs.Prelude.{slice_get}
use Rattle.std.specs.List.{AllZip}
use Rattle.std.proofs.lemmas.List.{append_assoc, append-nil}
use Rattle.plain_laws.specs.Lists.{drop-get, drop-none}
use Rattle.explorer_model.specs.declared.chess.Move.{Move}
use Rattle.explorer_model.specs.declared.chess.Position.{Position}
use Rattle.explorer_model.specs.Chess.{after, Legal}
use Rattle.explorer_model.specs.Keys.{key}
use Rattle.explorer_model.specs.Tidy.{IsTidied}
use Rattle.explorer_model.specs.Visits.{AreLegalFrom, Stage, stages, stage_limit}
use Rattle.batch_tally.specs.declared.step.Step.{Step}
use Rattle.batch_tally.specs.Steps.{IsStepAt, stages_within, Stepping}

pub legal-next : (p : Position) (moves : List Move) (ply : ℕ) (m : Move) → slice_get moves ply ≡ Some m → AreLegalFrom p (drop ply moves) → Legal p m
legal-next p moves ply m is legal = let P : List Move → Type 0 = λ ms. AreLegalFrom p ms in (subst P (drop-get moves ply m is) legal).0

-- the step at the board
pub step-at : (p tidy : Position) (next : Option Move) (step : Step) → IsTidied p tidy → step.key ≡ key tidy → step.next ≡ next
    → IsStepAt (record { position = p; next = next }) step
step-at p tidy next step tidied keyed follows = ((tidy, tidied, keyed), follows)

take-stage : (n : ℕ) (p : Position) (m : Move) (moves : List Move) → 0 < n
    → stages_within n p (m ∷ moves) ≡ record { position = p; next = Some m } ∷ stages_within (n - 1) (after p m) moves
take-stage zero p m moves some = absurd (omega (arith, some))
take-stage (suc n) p m moves some =
    let fewer : n ≡ suc n - 1 = omega arith in
    ap (λ k. record { position = p; next = Some m } ∷ stages_within k (after p m) moves) fewer

take-nothing : (n : ℕ) (xs : List Stage) → n ≡ 0 → take n xs ≡ []
take-nothing n xs is = ap (λ k. take k xs) is

take-last : (n : ℕ) (p : Position) → 0 < n → stages_within n p [] ≡ record { position = p; next = None } ∷ []
take-last zero p some = absurd (omega (arith, some))
take-last (suc zero) p some = refl
take-last (suc (suc n)) p some = refl

pub one-step : (root : Position) (moves : List Move) (board next : Position) (steps more : List Step) (ply : ℕ) (m : Move) (step : Step)
    → ply < stage_limit → slice_get moves ply ≡ Some m → next ≡ after board m → more ≡ steps ++ step ∷ []
    → IsStepAt (record { position = board; next = Some m }) step
    → Stepping root moves board steps ply → Stepping root moves next more (ply + 1)
one-step root moves board next steps more ply m step below is plays pushed at stepping =
    let left : drop ply moves ≡ m ∷ drop (ply + 1) moves = drop-get moves ply m is in
    let L : List Move → Type 0 = λ ms. AreLegalFrom board ms in
    let B : Position → Type 0 = λ p. AreLegalFrom p (drop (ply + 1) moves) in
    let Whole : List Step → Type 0 = λ s. AllZip IsStepAt (stages_within stage_limit root moves) s in
    let fewer : stage_limit - ply - 1 ≡ stage_limit - (ply + 1) = omega (arith, below) in
    let stages_are : stages_within (stage_limit - ply) board (drop ply moves)
    ≡ record { position = board; next = Some m } ∷ stages_within (stage_limit - (ply + 1)) next (drop (ply + 1) moves) =
    ap (λ ms. stages_within (stage_limit - ply) board ms) left
    ∙ take-stage (stage_limit - ply) board m (drop (ply + 1) moves) (omega (arith, below))
    ∙ ap (λ n. record { position = board; next = Some m } ∷ stages_within n (after board m) (drop (ply + 1) moves)) fewer
    ∙ ap (λ p. record { position = board; next = Some m } ∷ stages_within (stage_limit - (ply + 1)) p (drop (ply + 1) moves)) (sym plays) in
    record {
      legal = subst B (sym plays) (subst L left stepping.legal).1;
      completes = λ rest zip.
          (let Z : List Stage → Type 0 = λ ss. AllZip IsStepAt ss (step ∷ rest) in
          let joined : steps ++ step ∷ rest ≡ more ++ rest = sym (append_assoc steps (step ∷ []) rest) ∙ ap (λ s. s ++ rest) (sym pushed) in
          subst Whole joined (stepping.completes (step ∷ rest) (subst Z (sym stages_are) (at, zip))));
    }

pub last-step : (root : Position) (moves : List Move) (board : Position) (steps more : List Step) (ply : ℕ) (step : Step)
    → ply < stage_limit → slice_get moves ply ≡ None → more ≡ steps ++ step ∷ []
    → IsStepAt (record { position = board; next = None }) step
    → Stepping root moves board steps ply → AllZip IsStepAt (stages_within stage_limit root moves) more
last-step root moves board steps more ply step below is pushed at stepping =
    let Whole : List Step → Type 0 = λ s. AllZip IsStepAt (stages_within stage_limit root moves) s in
    let Z : List Stage → Type 0 = λ ss. AllZip IsStepAt ss (step ∷ []) in
    let stages_are : stages_within (stage_limit - ply) board (drop ply moves) ≡ record { position = board; next = None } ∷ [] =
    ap (λ ms. stages_within (stage_limit - ply) board ms) (drop-none moves ply is)
    ∙ take-last (stage_limit - ply) board (omega (arith, below)) in
    subst Whole (sym pushed) (stepping.completes (step ∷ []) (subst Z (sym stages_are) (at, tt)))

pub all-steps : (root : Position) (moves : List Move) (board : Position) (steps : List Step) (ply : ℕ) → stage_limit ≤ ply
    → Stepping root moves board steps ply → AllZip IsStepAt (stages_within stage_limit root moves) steps
all-steps root moves board steps ply above stepping =
    let Whole : List Step → Type 0 = λ s. AllZip IsStepAt (stages_within stage_limit root moves) s in
    let Z : List Stage → Type 0 = λ ss. AllZip IsStepAt ss [] in
    let none : stages_within (stage_limit - ply) board (drop ply moves) ≡ [] =
    take-nothing (stage_limit - ply) (stages board (drop ply moves)) (omega (arith, above)) in
    subst Whole (append-nil steps) (stepping.completes [] (subst Z (sym none) tt))

pub begins : (root : Position) (moves : List Move) (board : Position) (steps : List Step) → board ≡ root → steps ≡ [] → AreLegalFrom root moves → Stepping root moves board steps 0
begins root moves board steps at_root none legal =
    let P : Position → Type 0 = λ p. Stepping root moves p steps 0 in
    let Q : List Step → Type 0 = λ s. Stepping root moves root s 0 in
    subst P (sym at_root) (subst Q (sym none) (record { legal = legal; completes = λ rest zip. zip }))

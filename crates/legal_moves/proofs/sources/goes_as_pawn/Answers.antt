use Rattle.std.proofs.Common.{◌↔◌, true≢false, ◌⊎◌, inl, inr, ⊎_elim, refl, sym, ◌∙◌}
use Rattle.explorer_model.specs.Chess.{PawnSteps, PawnDoubleSteps}
use Rattle.step_tables.proofs.Rule.{both}
use Rattle.legal_moves.proofs.sources.goes_as_pawn.Goals as goal

-- where a pawn does not go forward, it can only capture
only_captures : {S D C H : Type 0} → ¬ (S ⊎ D) → H ↔ C → H ↔ (S ⊎ D ⊎ C)
only_captures none same = (
  λ h. inr (inr (same.0 h)),
  ⊎_elim (λ s. absurd (none (inl s))) (⊎_elim (λ d. absurd (none (inr d))) same.1),
)

pub returns-then-contains : goal.returns-then-contains
returns-then-contains c = (
  λ _. ⊎_elim inl (λ d. inr (inl d)) ((c.pawn_advances.ensures c.args.m refl).0 (c.contains.ensures.0 c.if-contains.true)),
  λ _. c.if-contains.true,
)

pub returns-else-contains : goal.returns-else-contains
returns-else-contains c =
    let none : ¬ (PawnSteps c.args.position.now c.args.m ⊎ PawnDoubleSteps c.args.position.now c.args.m) = λ forward.
    true≢false (sym (c.contains.ensures.1 ((c.pawn_advances.ensures c.args.m refl).1 forward)) ∙ c.if-contains.false) in
    only_captures none (both c.contains-else-contains.ensures (c.pawn_captures.ensures c.args.m refl))

use Rattle.std.proofs.Common.{refl, sym, ◌∙◌}
use Rattle.explorer_model.proofs.laws.same_is_an_equivalence.Goals as goal

pub returns : goal.returns
returns c = record {
  reflexive = λ p. (refl, refl, refl, λ s. (λ taken. taken, λ taken. taken));
  symmetric = λ p q same. (sym same.0, sym same.1, sym same.2, λ s. ((same.3 s).1, (same.3 s).0));
  transitive = λ p q r first second. (
    first.0 ∙ second.0,
    first.1 ∙ second.1,
    first.2 ∙ second.2,
    λ s. (λ taken. (second.3 s).0 ((first.3 s).0 taken), λ taken. (first.3 s).1 ((second.3 s).1 taken)),
  );
}

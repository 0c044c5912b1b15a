use Rattle.std.proofs.Common.{refl}
use Rattle.legal_moves.proofs.TidyLemmas.{tidied_same}
use Rattle.legal_moves.proofs.laws.tidy_is_determined.Goals as goal

pub returns : goal.returns
returns c = λ p q r q_tidied r_tidied.
    (tidied_same p p q r q_tidied r_tidied).0 (refl, refl, refl, λ s. (λ open_square. open_square, λ open_square. open_square))

-- A position has one tidy key.
use Rattle.std.proofs.Common.{◌≡◌, ℕ, List, sym, ap, ◌∙◌}
use Rattle.explorer_model.specs.declared.chess.Position.{Position}
use Rattle.explorer_model.specs.Keys.{key}
use Rattle.explorer_model.specs.Tidy.{IsTidyKey}
use Rattle.legal_moves.specs.Tidy.{IsTidied}

pub one-key : ((p q r : Position) → IsTidied p q → IsTidied p r → q ≡ r) → (at : Position) (bytes others : List ℕ) → IsTidyKey at bytes → IsTidyKey at others → bytes ≡ others
one-key one at bytes others tidy tidy' = tidy.2 ∙ (ap key (one at tidy.0 tidy'.0 tidy.1 tidy'.1) ∙ sym tidy'.2)

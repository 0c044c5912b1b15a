-- What `==` says of options, and of the squares in them.
use Rattle.std.proofs.Common.{◌≡◌, ◌∙◌, ◌↔◌, ℕ, true, false, IsTrue, Option, Some, nat_eq, sym, ap}
use Rattle.std.proofs.lemmas.Bool.Decides.{Decides-eqb}
use Rattle.std.proofs.lemmas.Option.{same_Some}
use Rattle.explorer_model.proofs.Squares.{square_eq}
use Rattle.explorer_model.specs.declared.square.Square.{Square}

-- two squares are the same by their indices
pub squares-decide : (one other : Option Square) (a b : Square) → one ≡ Some a → other ≡ Some b
    → IsTrue (nat_eq a.index b.index) ↔ (one ≡ other)
squares-decide one other a b is-one is-other = (
  λ e. is-one ∙ ap Some (square_eq a b ((Decides-eqb a.index b.index).0 e)) ∙ sym is-other,
  λ e. (Decides-eqb a.index b.index).1 (ap (λ s. s.index) (same_Some a b (sym is-one ∙ e ∙ is-other))),
)

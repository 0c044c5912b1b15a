-- Tidy forms: they are valid, and equal exactly where their positions are the same.
use Rattle.std.proofs.Common.{◌≡◌, ℕ, ◌↔◌, Option, Some, None, refl, sym, ap, ◌∙◌, subst}
use Rattle.explorer_model.proofs.Squares.{square_eq}
use Rattle.explorer_model.specs.declared.chess.Position.{Position}
use Rattle.explorer_model.specs.declared.square.Square.{Square}
use Rattle.explorer_model.specs.Chess.{IsSquare, IsValid, CanCaptureEnPassant, Same}
use Rattle.legal_moves.specs.Tidy.{IsTidied}
use Rattle.legal_moves.proofs.PlayLemmas.{position_eq}

-- a square that is dropped leaves the position valid
pub tidied_valid : (p : Position) (en_passant : Option Square) → IsValid p → ((s : ℕ) → IsSquare en_passant s ↔ CanCaptureEnPassant p s)
    → IsValid (record { squares = p.squares; turn = p.turn; rights = p.rights; en_passant = en_passant })
tidied_valid p en_passant v open_squares = record {
  board = v.board;
  white = v.white;
  black = v.black;
  pawns = v.pawns;
  not_in_check = v.not_in_check;
  rights = v.rights;
  en_passant = λ s is. v.en_passant s ((open_squares s).0 is).0;
}

-- an en passant square is told by the squares that it is
same_square : (a b : Option Square) → ((s : ℕ) → IsSquare a s ↔ IsSquare b s) → a ≡ b
same_square None None h = refl
same_square None (Some b) h = absurd ((h b.index).1 refl)
same_square (Some a) None h = absurd ((h a.index).0 refl)
same_square (Some a) (Some b) h = ap (λ s. Some s) (square_eq a b (sym ((h a.index).0 refl)))

back : {A B : Type 0} → (A ↔ B) → (B ↔ A)
back f = (f.1, f.0)

join : {A B C : Type 0} → (A ↔ B) → (B ↔ C) → (A ↔ C)
join f g = (λ a. g.0 (f.0 a), λ c. f.1 (g.1 c))

pub tidied_same : (p q p_tidied q_tidied : Position) → IsTidied p p_tidied → IsTidied q q_tidied → Same p q ↔ (p_tidied ≡ q_tidied)
tidied_same p q p_tidied q_tidied f g = (equal, same)
  where
    equal : Same p q → p_tidied ≡ q_tidied
    equal h =
        position_eq p_tidied q_tidied (f.squares ∙ h.0 ∙ sym g.squares) (f.turn ∙ h.1 ∙ sym g.turn) (f.rights ∙ h.2 ∙ sym g.rights)
        (same_square _ _ (λ s. join (join (f.en_passant s) (h.3 s)) (back (g.en_passant s))))

    same : p_tidied ≡ q_tidied → Same p q
    same e = (
      sym f.squares ∙ ap (λ x. x.squares) e ∙ g.squares,
      sym f.turn ∙ ap (λ x. x.turn) e ∙ g.turn,
      sym f.rights ∙ ap (λ x. x.rights) e ∙ g.rights,
      λ s. let P : Position → Type 0 = λ x. IsSquare p_tidied.en_passant s ↔ IsSquare x.en_passant s in
          join (back (f.en_passant s)) (join (subst P e ((λ x. x), (λ x. x))) (g.en_passant s)),
    )

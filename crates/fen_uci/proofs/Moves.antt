-- A form means one move in a position.
use Rattle.std.proofs.Common.{◌≡◌, ℕ, List, Option, Some, None, Result, Ok, Err, refl, sym, ap, ◌∙◌, inl, inr, arith}
use Rattle.explorer_model.specs.declared.chess.Color.{Color}
use Rattle.explorer_model.specs.declared.chess.Side.{Side}
use Rattle.explorer_model.specs.declared.chess.Side.TheVariants.{Short, Long}
use Rattle.explorer_model.specs.declared.chess.Position.{Position}
use Rattle.explorer_model.specs.declared.chess.Move.{Move}
use Rattle.explorer_model.specs.declared.notation.UciForm.{UciForm}
use Rattle.explorer_model.specs.declared.notation.UciFault.{UciFault}
use Rattle.explorer_model.specs.declared.notation.UciFault.TheVariants.{NotUci, NotLegal}
use Rattle.explorer_model.specs.Chess.{rook_home, king_target}
use Rattle.explorer_model.specs.Uci.{uci_form, EndsOn, Means, UciAnswers, UciAnswersAs, UciReads}
use Rattle.explorer_model.proofs.Squares.{square_eq}

side_of_home : (color : Color) (a b : Side) → rook_home color a ≡ rook_home color b → a ≡ b
side_of_home color Short Short e = refl
side_of_home color Short Long e = absurd (omega arith)
side_of_home color Long Short e = absurd (omega arith)
side_of_home color Long Long e = refl

pub ends_on_one : (p : Position) (form : UciForm) (s t : ℕ) → EndsOn p form s → EndsOn p form t → s ≡ t
ends_on_one p form s t (inl (a, onto, e)) (inl (b, onto', e')) =
    e ∙ ap (λ (side : Side). king_target p.turn side) (side_of_home p.turn a b (sym onto.3 ∙ onto'.3)) ∙ sym e'
ends_on_one p form s t (inl (a, onto, e)) (inr (none, e')) = absurd (none a onto)
ends_on_one p form s t (inr (none, e)) (inl (b, onto, e')) = absurd (none b onto)
ends_on_one p form s t (inr (none, e)) (inr (none', e')) = e ∙ sym e'

pub means_one : (p : Position) (form : UciForm) (m n : Move) → Means p form m → Means p form n → m ≡ n
means_one p form m n (from, to, promotion) (from', to', promotion') =
    let from_same = square_eq m.from n.from (from ∙ sym from') in
    let to_same = square_eq m.to n.to (ends_on_one p form m.to.index n.to.index to to') in
    let promotion_same = promotion ∙ sym promotion' in
    λ i. record { from = from_same i; to = to_same i; promotion = promotion_same i }

answers_same : (p : Position) (form : UciForm) (r s : Result Move UciFault) → UciAnswers p form r → UciAnswers p form s → r ≡ s
answers_same p form (Ok m) (Ok n) (means, legal) (means', legal') = ap (λ (x : Move). Ok x) (means_one p form m n means means')
answers_same p form (Ok m) (Err NotUci) one none = absurd none
answers_same p form (Ok m) (Err NotLegal) (means, legal) none = absurd (none m means legal)
answers_same p form (Err NotUci) s none other = absurd none
answers_same p form (Err NotLegal) (Ok m) none (means, legal) = absurd (none m means legal)
answers_same p form (Err NotLegal) (Err NotUci) none other = absurd other
answers_same p form (Err NotLegal) (Err NotLegal) none other = refl

answers_as_same : (p : Position) (form : Option UciForm) (r s : Result Move UciFault) → UciAnswersAs p form r → UciAnswersAs p form s → r ≡ s
answers_as_same p None r s a b = a ∙ sym b
answers_as_same p (Some form) r s a b = answers_same p form r s a b

pub one_reading : (p : Position) (text : List ℕ) (r s : Result Move UciFault) → UciReads p text r → UciReads p text s → r ≡ s
one_reading p text r s a b = answers_as_same p (uci_form text) r s a b

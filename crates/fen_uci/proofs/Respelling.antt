-- A written move is read as the move.
use Rattle.std.proofs.Common.{◌≡◌, ℕ, ◌⊎◌, inl, inr, Option, Some, None, option_map, option_and_then, Ok, refl, sym, subst}
use Rattle.explorer_model.specs.declared.chess.Color.{Color}
use Rattle.explorer_model.specs.declared.chess.Side.{Side}
use Rattle.explorer_model.specs.declared.chess.Role.{Role}
use Rattle.explorer_model.specs.declared.chess.Role.TheVariants.{Pawn, Knight, Bishop, Rook, Queen, King}
use Rattle.explorer_model.specs.declared.chess.Piece.{Piece}
use Rattle.explorer_model.specs.declared.chess.Position.{Position}
use Rattle.explorer_model.specs.declared.chess.Move.{Move}
use Rattle.explorer_model.specs.declared.notation.UciForm.{UciForm}
use Rattle.explorer_model.specs.Board.{piece_at, IsPiece, IsOfColor}
use Rattle.explorer_model.specs.Chess.{IsPromotion, PieceMoves, IsValid, Legal}
use Rattle.explorer_model.specs.Letters.{file_letter, rank_digit, square_named}
use Rattle.explorer_model.specs.Uci.{promotion_named, promotion_letter, form_from, uci_form, uci_text, IsOntoRook, UciAnswersAs, UciReads}
use Rattle.explorer_model.proofs.LetterLemmas.{square_read}

promotion_read : (promotion : Option Role) → (promotion ≡ None) ⊎ IsPromotion promotion → promotion_named (promotion_letter promotion) ≡ Some promotion
promotion_read None fine = refl
promotion_read (Some Knight) fine = refl
promotion_read (Some Bishop) fine = refl
promotion_read (Some Rook) fine = refl
promotion_read (Some Queen) fine = refl
promotion_read (Some Pawn) (inl e) = cc
promotion_read (Some Pawn) (inr ill) = absurd ill
promotion_read (Some King) (inl e) = cc
promotion_read (Some King) (inr ill) = absurd ill

promotes_well : (p : Position) (occupant : Option Piece) (m : Move) → PieceMoves p occupant m → (m.promotion ≡ None) ⊎ IsPromotion m.promotion
promotes_well p None m ill = absurd ill
promotes_well p (Some piece) m goes = by_role piece.role goes
  where
    by_role : (role : Role) → PieceMoves p (Some (record { color = piece.color; role = role })) m → (m.promotion ≡ None) ⊎ IsPromotion m.promotion
    by_role Pawn (steps, inl (last, fine)) = inr fine
    by_role Pawn (steps, inr (not_last, none)) = inl none
    by_role Knight (attacks, none) = inl none
    by_role Bishop (attacks, none) = inl none
    by_role Rook (attacks, none) = inl none
    by_role Queen (attacks, none) = inl none
    by_role King (attacks, none) = inl none

parts_read : (from to : Option ℕ) (promotion : Option (Option Role)) (f t : ℕ) (role : Option Role) → from ≡ Some f → to ≡ Some t → promotion ≡ Some role
    → option_and_then (λ a. option_and_then (λ b. option_map (form_from a b) promotion) to) from ≡ Some (form_from f t role)
parts_read from to promotion f t role e g h = rw (e, g, h) refl

form_read : (m : Move) → (m.promotion ≡ None) ⊎ IsPromotion m.promotion → uci_form (uci_text m) ≡ Some (form_from m.from.index m.to.index m.promotion)
form_read m fine =
    parts_read (square_named (file_letter m.from.index) (rank_digit m.from.index)) (square_named (file_letter m.to.index) (rank_digit m.to.index))
    (promotion_named (promotion_letter m.promotion)) m.from.index m.to.index m.promotion
    (square_read m.from.index m.from.on_board) (square_read m.to.index m.to.on_board) (promotion_read m.promotion fine)

own_piece : (color : Color) (role : Role) (occupant : Option Piece) → IsPiece color role occupant → IsOfColor color occupant
own_piece color role None ill = ill
own_piece color role (Some piece) is = is.0

pub written_reads : (p : Position) (m : Move) → IsValid p → Legal p m → UciReads p (uci_text m) (Ok m)
written_reads p m valid legal =
    let form = form_from m.from.index m.to.index m.promotion in
    let (own, free, goes) = legal.0 in
    let not_onto : (side : Side) → ¬ IsOntoRook p side form = λ side onto. free (own_piece p.turn Rook (piece_at p.squares m.to.index) onto.4) in
    subst (λ (o : Option UciForm). UciAnswersAs p o (Ok m)) (sym (form_read m (promotes_well p (piece_at p.squares m.from.index) m goes)))
    ((refl, inr (not_onto, refl), refl), legal)

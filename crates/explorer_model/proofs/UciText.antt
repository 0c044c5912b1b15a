-- What UCI writes of a move names it.
use Rattle.std.proofs.Common.{arith, ◌≡◌, ◌∙◌, sym, ap, refl, ℕ, ◌==◌, List, [], ◌∷◌, drop, Option, Some, None, if◌then◌else◌}
use Rattle.std.specs.List.{slice_index}
use Rattle.explorer_model.specs.declared.chess.Move.{Move}
use Rattle.explorer_model.specs.declared.chess.Role.{Role}
use Rattle.explorer_model.specs.declared.chess.Role.TheVariants.{Pawn, Knight, Bishop, Rook, Queen, King}
use Rattle.explorer_model.specs.declared.square.Square.{Square}
use Rattle.explorer_model.specs.Letters.{file_letter, rank_digit}
use Rattle.explorer_model.specs.Uci.{uci_text, promotion_letter}
use Rattle.explorer_model.proofs.Squares.{square_eq}

role_at : ℕ → Role
role_at b =
    if b == 112 then Pawn
    else (if b == 110 then Knight
    else (if b == 98 then Bishop
    else (if b == 114 then Rook
    else (if b == 113 then Queen
    else King))))

promotion_at : List ℕ → Option Role
promotion_at [] = None
promotion_at (b ∷ bytes) = Some (role_at b)

promotion_at-letter : (promotion : Option Role) → promotion_at (promotion_letter promotion) ≡ promotion
unfolding role_at promotion_at
promotion_at-letter None = refl
promotion_at-letter (Some Pawn) = refl
promotion_at-letter (Some Knight) = refl
promotion_at-letter (Some Bishop) = refl
promotion_at-letter (Some Rook) = refl
promotion_at-letter (Some Queen) = refl
promotion_at-letter (Some King) = refl

square_at : (a b : Square) → file_letter a.index ≡ file_letter b.index → rank_digit a.index ≡ rank_digit b.index → a ≡ b
square_at a b file rank = square_eq a b (omega (arith, file, rank))

pub uci_text-names : (m n : Move) → uci_text m ≡ uci_text n → m ≡ n
uci_text-names m n e =
    let from : m.from ≡ n.from = square_at m.from n.from (ap (λ bytes. slice_index bytes 0) e) (ap (λ bytes. slice_index bytes 1) e) in
    let to : m.to ≡ n.to = square_at m.to n.to (ap (λ bytes. slice_index bytes 2) e) (ap (λ bytes. slice_index bytes 3) e) in
    let promotion : m.promotion ≡ n.promotion =
    sym (promotion_at-letter m.promotion) ∙ (ap (λ bytes. promotion_at (drop 4 bytes)) e ∙ promotion_at-letter n.promotion) in
    λ i. record { from = from i; to = to i; promotion = promotion i }

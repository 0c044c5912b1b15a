-- Positions that are the same have the same legal moves.
use Rattle.std.proofs.Common.{◌≡◌, ◌↔◌, ℕ, ◌⊎◌, Bool, true, false, ◌&&◌, List, [], ◌∷◌, map, Option, Some, None, refl, sym, ap, ◌∙◌, subst, inl, inr, arith}
use Rattle.std.specs.List.{range_with_len}
use Rattle.explorer_model.specs.declared.chess.Role.{Role}
use Rattle.explorer_model.specs.declared.chess.Role.TheVariants.{Pawn, Knight, Bishop, Rook, Queen, King}
use Rattle.explorer_model.specs.declared.chess.Piece.{Piece}
use Rattle.explorer_model.specs.declared.chess.Position.{Position}
use Rattle.explorer_model.specs.declared.chess.Move.{Move}
use Rattle.explorer_model.specs.declared.square.Square.{Square}
use Rattle.explorer_model.specs.Board.{piece_of, piece_at, IsOfColor, IsPiece, InCheck}
use Rattle.explorer_model.specs.Chess.{IsSquare, HasCrossed, IsValid, PawnSteps, PawnDoubleSteps, PawnCaptures, RoleMoves, PieceMoves, Legal, CanCaptureEnPassant, Same, is_pawn, is_pawn_at, is_square, takes_en_passant, placed, squares_after}
use Rattle.legal_moves.proofs.Facts.{piece_is, has_passed, straight_none, double_none}
use Rattle.legal_moves.proofs.PlayLemmas.{position_eq}
use Rattle.legal_moves.proofs.DestinationLemmas.{crossed_empty, empty_not_own}
use Rattle.explorer_model.proofs.Pieces.{square_true}

-- the position with another en passant square
abbrev other : Position → Option Square → Position
other p square = record { squares = p.squares; turn = p.turn; rights = p.rights; en_passant = square }

abbrev IsOpenOf : Position → Option Square → Type 0
IsOpenOf p square = (s : ℕ) → CanCaptureEnPassant p s ↔ CanCaptureEnPassant (other p square) s

-- ---- a pawn that goes to an en passant square captures there

pawn_of : (p : Position) (o : Option Piece) → IsOfColor p.turn o → is_pawn_at o ≡ true → IsPiece p.turn Pawn o
pawn_of p None own is = absurd own
pawn_of p (Some piece) own is = (own, pawn_role piece.role is)
  where
    pawn_role : (role : Role) → is_pawn role ≡ true → role ≡ Pawn
    pawn_role Pawn is = refl
    pawn_role Knight is = cc
    pawn_role Bishop is = cc
    pawn_role Rook is = cc
    pawn_role Queen is = cc
    pawn_role King is = cc

captures_by : (p : Position) (m : Move) (o : Option Piece) → HasCrossed p.squares p.turn m.to.index → piece_at p.squares m.from.index ≡ o
    → IsPiece p.turn Pawn o → PieceMoves p o m → PawnCaptures p m
captures_by p m None crossed stands pawn goes = absurd pawn
captures_by p m (Some piece) crossed stands pawn goes =
    let P : Role → Type 0 = λ role. RoleMoves p role m in
    let at : piece_at p.squares m.from.index ≡ piece_of p.turn Pawn = stands ∙ piece_is p.turn Pawn (Some piece) pawn in
    elim (subst P pawn.1 goes).0 [
      | inl s ↦ absurd (straight_none p m at (has_passed p.squares p.turn m.to.index crossed) s)
      | inr (inl s) ↦ absurd (double_none p m (has_passed p.squares p.turn m.to.index crossed) s)
      | inr (inr s) ↦ s
    ]

is_square_true : (o : Option Square) (s : ℕ) → IsSquare o s → is_square o s ≡ true
is_square_true None s is = absurd is
is_square_true (Some square) s is = grind (arith, is)

same_bool : (a b : Bool) → (a ≡ true → b ≡ true) → (b ≡ true → a ≡ true) → a ≡ b
same_bool true b to from = sym (to refl)
same_bool false true to from = from refl
same_bool false false to from = refl

map-same : {A B : Type 0} (f g : A → B) → ((x : A) → f x ≡ g x) → (xs : List A) → map f xs ≡ map g xs
map-same f g same [] = refl
map-same f g same (x ∷ xs) = let head = same x in let tail = map-same f g same xs in λ i. head i ∷ tail i

-- ---- what is taken is the same

module _ (p : Position) (square : Option Square) (valid : IsValid (other p square)) (open_squares : IsOpenOf p square) where
  to_other : (m : Move) → IsPiece p.turn Pawn (piece_at p.squares m.from.index) → Legal p m → IsSquare p.en_passant m.to.index → IsSquare square m.to.index
  to_other m pawn legal is = ((open_squares m.to.index).0 (is, (m, pawn, refl, legal))).0

  from_other : (m : Move) → IsPiece p.turn Pawn (piece_at p.squares m.from.index) → Legal p m → IsSquare square m.to.index → IsSquare p.en_passant m.to.index
  from_other m pawn legal is =
      let crossed : HasCrossed p.squares p.turn m.to.index = valid.en_passant m.to.index is in
      elim (captures_by p m (piece_at p.squares m.from.index) crossed refl pawn legal.0.2).1 [
        | inl enemy ↦ absurd (empty_not_own _ _ (crossed_empty p.squares p.turn m.to.index crossed) enemy)
        | inr at ↦ at
      ]

  same_pawn : (m : Move) → Legal p m → (pawn : Bool) → is_pawn_at (piece_at p.squares m.from.index) ≡ pawn → takes_en_passant p m ≡ takes_en_passant (other p square) m
  same_pawn m legal false is =
      ap (λ pawn. pawn && is_square p.en_passant m.to.index) is ∙ sym (ap (λ pawn. pawn && is_square square m.to.index) is)
  same_pawn m legal true is =
      let pawn : IsPiece p.turn Pawn (piece_at p.squares m.from.index) = pawn_of p _ legal.0.0 is in
      ap (λ e. is_pawn_at (piece_at p.squares m.from.index) && e) (same_bool _ _
      (λ e. is_square_true square m.to.index (to_other m pawn legal (square_true p.en_passant m.to.index e)))
      (λ e. is_square_true p.en_passant m.to.index (from_other m pawn legal (square_true square m.to.index e))))

  same_takes : (m : Move) → Legal p m → takes_en_passant p m ≡ takes_en_passant (other p square) m
  same_takes m legal = same_pawn m legal _ refl

  placed_same : (m : Move) → takes_en_passant p m ≡ takes_en_passant (other p square) m → (s : ℕ) → placed p m s ≡ placed (other p square) m s
  unfolding placed
  placed_same m e s = grind (arith, e)

  squares_same : (m : Move) → takes_en_passant p m ≡ takes_en_passant (other p square) m → squares_after p m ≡ squares_after (other p square) m
  unfolding squares_after
  squares_same m e = map-same (placed p m) (placed (other p square) m) (placed_same m e) (range_with_len 0 64)

  goes_same : (m : Move) → IsPiece p.turn Pawn (piece_at p.squares m.from.index) → Legal p m
      → PawnSteps p m ⊎ PawnDoubleSteps p m ⊎ PawnCaptures p m
      → PawnSteps (other p square) m ⊎ PawnDoubleSteps (other p square) m ⊎ PawnCaptures (other p square) m
  goes_same m pawn legal (inl s) = inl s
  goes_same m pawn legal (inr (inl s)) = inr (inl s)
  goes_same m pawn legal (inr (inr (diagonal, inl enemy))) = inr (inr (diagonal, inl enemy))
  goes_same m pawn legal (inr (inr (diagonal, inr at))) = inr (inr (diagonal, inr (to_other m pawn legal at)))

  piece_moves : (m : Move) (role : Role) → ((role ≡ Pawn) → IsPiece p.turn Pawn (piece_at p.squares m.from.index)) → Legal p m → RoleMoves p role m → RoleMoves (other p square) role m
  piece_moves m Pawn pawn legal goes = (goes_same m (pawn refl) legal goes.0, goes.1)
  piece_moves m Knight pawn legal goes = goes
  piece_moves m Bishop pawn legal goes = goes
  piece_moves m Rook pawn legal goes = goes
  piece_moves m Queen pawn legal goes = goes
  piece_moves m King pawn legal goes = goes

  goes_by : (m : Move) (o : Option Piece) → piece_at p.squares m.from.index ≡ o → Legal p m → IsOfColor p.turn o → PieceMoves p o m → PieceMoves (other p square) o m
  goes_by m None stands legal own goes = absurd goes
  goes_by m (Some piece) stands legal own goes =
      let P : Option Piece → Type 0 = λ o. IsPiece p.turn Pawn o in
      piece_moves m piece.role (λ is. subst P (sym stands) (own, is)) legal goes

  pub moves_same : (m : Move) → Legal p m → Legal (other p square) m
  moves_same m legal =
      let Q : List (Option Piece) → Type 0 = λ squares. ¬ InCheck squares p.turn in (
        (legal.0.0, legal.0.1, goes_by m _ refl legal legal.0.0 legal.0.2),
        subst Q (squares_same m (same_takes m legal)) legal.1,
        legal.2,
      )

pub same_moves : (p q : Position) (m : Move) → IsValid p → IsValid q → Same p q → Legal p m → Legal q m
same_moves p q m p_valid q_valid same legal =
    let is : q ≡ other p q.en_passant = position_eq q (other p q.en_passant) (sym same.0) (sym same.1) (sym same.2) refl in
    let V : Position → Type 0 = λ x. IsValid x in
    let O : Position → Type 0 = λ x. (s : ℕ) → CanCaptureEnPassant p s ↔ CanCaptureEnPassant x s in
    let L : Position → Type 0 = λ x. Legal x m in
    subst L (sym is) (moves_same p q.en_passant (subst V is q_valid) (subst O is same.3) m legal)

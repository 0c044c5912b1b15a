-- The captures on the en passant square.
use Rattle.std.proofs.Common.{◌≡◌, ◌↔◌, ℕ, ◌+◌, ◌<◌, Option, Some, None, bit_and, refl, sym, ◌∙◌, subst, inl, inr, arith}
use Rattle.step_tables.specs.Bitboard.{Holds}
use Rattle.step_tables.proofs.BitboardLemmas.{Holds-zero, Holds-and}
use Rattle.explorer_model.specs.declared.chess.Color.{Color}
use Rattle.explorer_model.specs.declared.chess.Color.TheVariants.{White, Black}
use Rattle.explorer_model.specs.declared.chess.Role.{Role}
use Rattle.explorer_model.specs.declared.chess.Role.TheVariants.{Pawn}
use Rattle.explorer_model.specs.declared.chess.Piece.{Piece}
use Rattle.explorer_model.specs.declared.chess.Position.{Position}
use Rattle.explorer_model.specs.declared.chess.Move.{Move}
use Rattle.explorer_model.specs.declared.square.Square.{Square}
use Rattle.explorer_model.specs.Board.{rank_of, files_apart, opponent, piece_of, piece_at, IsPiece, PawnDiagonal}
use Rattle.explorer_model.specs.Chess.{IsSquare, HasCrossed, IsValid, PawnCaptures, RoleMoves, PieceMoves, PseudoLegal, Legal, quiet, CanCaptureEnPassant}
use Rattle.explorer_model.proofs.Squares.{square_eq}
use Rattle.explorer_model.proofs.EnPassant.{HasCrossed-not_last, taken-found, taken-from}
use Rattle.legal_moves.specs.Listing.{RoleReaches, PieceReaches}
use Rattle.legal_moves.specs.EnemySets.{IsBitboardOf, IsWithout}
use Rattle.legal_moves.proofs.Facts.{piece_is, is_own, has_passed, straight_none, double_none}
use Rattle.legal_moves.proofs.DestinationLemmas.{quiet_pseudo_legal, crossed_empty, empty_not_own}

pub pawn_back : (color : Color) (a b : ℕ) → PawnDiagonal (opponent color) b a ↔ PawnDiagonal color a b
pawn_back White a b = (
  λ h. let f : files_apart b a ≡ 1 = h.1 in let r : rank_of b ≡ rank_of a + 1 = h.0 in (omega arith, omega arith),
  λ h. let f : files_apart a b ≡ 1 = h.1 in let r : rank_of b ≡ rank_of a + 1 = h.0 in (omega arith, omega arith),
)
pawn_back Black a b = (
  λ h. let f : files_apart b a ≡ 1 = h.1 in let r : rank_of a ≡ rank_of b + 1 = h.0 in (omega arith, omega arith),
  λ h. let f : files_apart a b ≡ 1 = h.1 in let r : rank_of a ≡ rank_of b + 1 = h.0 in (omega arith, omega arith),
)

at_square : (p : Position) (to : Square) → p.en_passant ≡ Some to → IsSquare p.en_passant to.index
at_square p to is = let P : Option Square → Type 0 = λ o. IsSquare o to.index in subst P (sym is) refl

pawn_goes : (p : Position) (m : Move) (o : Option Piece) → IsPiece p.turn Pawn o → PawnCaptures p m → PieceReaches p o m
pawn_goes p m None pawn s = absurd pawn
pawn_goes p m (Some piece) pawn s = let P : Role → Type 0 = λ role. RoleReaches p role m in subst P (sym pawn.1) (inr (inr s))

-- a pawn that attacks the square may go there
pub capture_pseudo_legal : (p : Position) (from to : Square) → IsValid p → p.en_passant ≡ Some to → IsPiece p.turn Pawn (piece_at p.squares from.index)
    → PawnDiagonal p.turn from.index to.index → PseudoLegal p (quiet from to)
capture_pseudo_legal p from to valid is pawn diagonal =
    let crossed : HasCrossed p.squares p.turn to.index = valid.en_passant to.index (at_square p to is) in
    quiet_pseudo_legal p (quiet from to) (
      is_own p.turn Pawn _ (piece_is p.turn Pawn _ pawn),
      empty_not_own p.turn _ (crossed_empty p.squares p.turn to.index crossed),
      pawn_goes p (quiet from to) (piece_at p.squares from.index) pawn (diagonal, inr (at_square p to is)),
    )
    refl (λ promoting. HasCrossed-not_last p.squares p.turn to.index crossed promoting.0)

goes_diagonal : (p : Position) (m : Move) (o : Option Piece) → HasCrossed p.squares p.turn m.to.index → piece_at p.squares m.from.index ≡ o
    → IsPiece p.turn Pawn o → PieceMoves p o m → PawnDiagonal p.turn m.from.index m.to.index
goes_diagonal p m None crossed stands pawn goes = absurd pawn
goes_diagonal p m (Some piece) crossed stands pawn goes =
    let P : Role → Type 0 = λ role. RoleMoves p role m in
    let at : piece_at p.squares m.from.index ≡ piece_of p.turn Pawn = stands ∙ piece_is p.turn Pawn (Some piece) pawn in
    elim (subst P pawn.1 goes).0 [
      | inl s ↦ absurd (straight_none p m at (has_passed p.squares p.turn m.to.index crossed) s)
      | inr (inl s) ↦ absurd (double_none p m (has_passed p.squares p.turn m.to.index crossed) s)
      | inr (inr s) ↦ s.0
    ]

-- The pawns that are left to be tried, among which are all that may capture.

abbrev pub Captures : Position → Square → Square → Type 0
Captures p to from = IsPiece p.turn Pawn (piece_at p.squares from.index) × Legal p (quiet from to)

pub record AreTried (p : Position) (to : Square) (rest : ℕ) : Type 0 where
  pub pawns : (b : ℕ) → b < 64 → Holds rest b → IsPiece p.turn Pawn (piece_at p.squares b) × PawnDiagonal p.turn b to.index
  pub left : (from : Square) → Captures p to from → Holds rest from.index

pub tried-none : (p : Position) (to : Square) (pawns diagonals : ℕ) → IsValid p → p.en_passant ≡ Some to → IsBitboardOf (IsPiece p.turn Pawn) p.squares pawns
    → ((s : ℕ) → s < 64 → Holds diagonals s ↔ PawnDiagonal (opponent p.turn) to.index s) → AreTried p to (bit_and pawns diagonals)
tried-none p to pawns diagonals valid is are says = record {
  pawns = λ b on bit.
      let h : Holds pawns b × Holds diagonals b = (Holds-and pawns diagonals b).0 bit in
      ((are b on).0 h.0, (pawn_back p.turn b to.index).0 ((says b on).0 h.1));
  left = λ from h.
      let crossed : HasCrossed p.squares p.turn to.index = valid.en_passant to.index (at_square p to is) in
      (Holds-and pawns diagonals from.index).1 (
        (are from.index from.on_board).1 h.0,
        (says from.index from.on_board).1 ((pawn_back p.turn from.index to.index).1
            (goes_diagonal p (quiet from to) (piece_at p.squares from.index) crossed refl h.0 h.1.0.2)),
      );
}

pub tried-more : (p : Position) (to from : Square) (rest less : ℕ) → AreTried p to rest → ¬ Legal p (quiet from to) → IsWithout rest from.index less
    → AreTried p to less
tried-more p to from rest less tried illegal without = record {
  pawns = λ b on bit. tried.pawns b on ((without b on).0 bit).0;
  left = λ other h. (without other.index other.on_board).1 (
    tried.left other h,
    λ e. illegal (let P : Square → Type 0 = λ s. Legal p (quiet s to) in subst P (square_eq other from e) h.1),
  );
}

pub tried-all : (p : Position) (to : Square) (rest : ℕ) → IsValid p → p.en_passant ≡ Some to → AreTried p to rest → rest ≡ 0 → CanCaptureEnPassant p to.index → ⊥
tried-all p to rest valid is tried none can =
    let h = taken-from p to valid is can in
    Holds-zero h.0.index (let P : ℕ → Type 0 = λ x. Holds x h.0.index in subst P none (tried.left h.0 h.1))

pub tried-found : (p : Position) (from to : Square) (rest : ℕ) → p.en_passant ≡ Some to → AreTried p to rest → Holds rest from.index
    → Legal p (quiet from to) → CanCaptureEnPassant p to.index
tried-found p from to rest is tried bit legal = taken-found p from to is ((tried.pawns from.index from.on_board bit).0, legal)

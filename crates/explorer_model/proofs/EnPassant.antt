-- A capture en passant ends on no last rank, so it promotes nothing, and it is known by the square that it begins on.
use Rattle.std.specs.Bool.{Decides}
use Rattle.std.proofs.Common.{Bool, IsTrue, ◌≡◌, ◌≢◌, ℕ, ◌↔◌, Option, Some, None, List, refl, sym, ◌∙◌, subst, inl, inr, arith}
use Rattle.explorer_model.specs.declared.chess.Color.{Color}
use Rattle.explorer_model.specs.declared.chess.Color.TheVariants.{White, Black}
use Rattle.explorer_model.specs.declared.chess.Role.{Role}
use Rattle.explorer_model.specs.declared.chess.Role.TheVariants.{Pawn}
use Rattle.explorer_model.specs.declared.chess.Piece.{Piece}
use Rattle.explorer_model.specs.declared.chess.Position.{Position}
use Rattle.explorer_model.specs.declared.chess.Move.{Move}
use Rattle.explorer_model.specs.declared.square.Square.{Square}
use Rattle.explorer_model.specs.Board.{rank_of, piece_at, IsPiece}
use Rattle.explorer_model.specs.Chess.{last_rank, HasCrossed, IsSquare, RoleMoves, PieceMoves, Legal, IsValid, quiet, CanCaptureEnPassant}
use Rattle.explorer_model.proofs.Squares.{square_eq}

pub HasCrossed-not_last : (squares : List (Option Piece)) (turn : Color) (s : ℕ) → HasCrossed squares turn s → rank_of s ≢ last_rank turn
HasCrossed-not_last squares White s crossed = λ last. omega (arith, crossed.0, last)
HasCrossed-not_last squares Black s crossed = λ last. omega (arith, crossed.0, last)

pub PieceMoves-quiet : (p : Position) (m : Move) (occupant : Option Piece)
    → IsPiece p.turn Pawn occupant → PieceMoves p occupant m → rank_of m.to.index ≢ last_rank p.turn → m.promotion ≡ None
PieceMoves-quiet p m None pawn goes not_last = absurd pawn
PieceMoves-quiet p m (Some piece) pawn goes not_last =
    let P : Role → Type 0 = λ role. RoleMoves p role m in
    elim (subst P pawn.1 goes).1 [ inl promoted ↦ absurd (not_last promoted.0) | inr none ↦ none.1 ]

pub Legal-en_passant : (p : Position) (m : Move) (to : Square)
    → HasCrossed p.squares p.turn to.index
    → IsPiece p.turn Pawn (piece_at p.squares m.from.index)
    → m.to.index ≡ to.index
    → Legal p m
    → Legal p (quiet m.from to)
Legal-en_passant p m to crossed pawn ends legal =
    let same_to : m.to ≡ to = square_eq m.to to ends in
    let N : ℕ → Type 0 = λ s. rank_of s ≢ last_rank p.turn in
    let not_last : rank_of m.to.index ≢ last_rank p.turn = subst N (sym ends) (HasCrossed-not_last p.squares p.turn to.index crossed) in
    let promotes_none : m.promotion ≡ None = PieceMoves-quiet p m (piece_at p.squares m.from.index) pawn legal.0.2 not_last in
    let path : m ≡ quiet m.from to = λ i. record { from = m.from; to = same_to i; promotion = promotes_none i } in
    let P : Move → Type 0 = λ n. Legal p n in subst P path legal

IsSquare-some : (square : Option Square) (to : Square) (s : ℕ) → square ≡ Some to → IsSquare square s → to.index ≡ s
IsSquare-some square to s is at_s = let P : Option Square → Type 0 = λ o. IsSquare o s in subst P is at_s

-- what a search for a capture on the en passant square says of every square
pub taken-some : (p : Position) (to : Square) → p.en_passant ≡ Some to → CanCaptureEnPassant p to.index
    → (s : ℕ) → to.index ≡ s ↔ CanCaptureEnPassant p s
taken-some p to is can s = (
  λ at_s. (let P : ℕ → Type 0 = λ n. CanCaptureEnPassant p n in subst P at_s can),
  λ taken. IsSquare-some p.en_passant to s is taken.0,
)

pub taken-none : (p : Position) (to : Square) → p.en_passant ≡ Some to → ¬ CanCaptureEnPassant p to.index
    → (s : ℕ) → ⊥ ↔ CanCaptureEnPassant p s
taken-none p to is cannot s = (
  λ no. absurd no,
  λ taken. cannot (let P : ℕ → Type 0 = λ n. CanCaptureEnPassant p n in subst P (sym (IsSquare-some p.en_passant to s is taken.0)) taken),
)

pub taken-found : (p : Position) (from to : Square) → p.en_passant ≡ Some to
    → IsPiece p.turn Pawn (piece_at p.squares from.index) × Legal p (quiet from to) → CanCaptureEnPassant p to.index
taken-found p from to is found =
    let P : Option Square → Type 0 = λ o. IsSquare o to.index in
    (subst P (sym is) refl, (quiet from to, found.0, refl, found.1))

pub taken-from : (p : Position) (to : Square) → IsValid p → p.en_passant ≡ Some to → CanCaptureEnPassant p to.index
    → (from : Square) × (IsPiece p.turn Pawn (piece_at p.squares from.index) × Legal p (quiet from to))
taken-from p to valid is taken =
    let m : Move = taken.1.0 in
    (m.from, (taken.1.1, Legal-en_passant p m to (valid.en_passant to.index taken.0) taken.1.1 taken.1.2 taken.1.3))

-- two answers of that search agree where they are no square, or one square
pub agree-some : (a b : Option Square) (x y : Square) (same : Bool)
    → a ≡ Some x → b ≡ Some y → Decides same (x.index ≡ y.index) → IsTrue same ↔ ((s : ℕ) → IsSquare a s ↔ IsSquare b s)
agree-some a b x y same is_x is_y decides =
    let A : Option Square → Type 0 = λ o. IsTrue same ↔ ((s : ℕ) → IsSquare o s ↔ IsSquare b s) in
    let B : Option Square → Type 0 = λ o. IsTrue same ↔ ((s : ℕ) → IsSquare (Some x) s ↔ IsSquare o s) in
    subst A (sym is_x) (subst B (sym is_y) (
      λ t s. (λ at_s. sym (decides.0 t) ∙ at_s, λ at_s. decides.0 t ∙ at_s),
      λ agree. decides.1 (sym ((agree x.index).0 refl)),
    ))

pub agree-none : (a b : Option Square) (y : Square) → a ≡ None → b ≡ Some y → ¬ ((s : ℕ) → IsSquare a s ↔ IsSquare b s)
agree-none a b y is_none is_y agree =
    let A : Option Square → Type 0 = λ o. IsSquare o y.index in
    subst A is_none ((agree y.index).1 (subst A (sym is_y) refl))

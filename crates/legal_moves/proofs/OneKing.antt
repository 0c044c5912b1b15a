-- A side has one king, so it is in check exactly where the square of its king is attacked.
use Rattle.std.proofs.Common.{◌≡◌, ◌≢◌, ◌↔◌, ℕ, suc, ◌+◌, ◌<◌, ◌≤◌, Bool, true, false, cond, ◌&&◌, List, [], ◌∷◌, length, set, Option, Some, None, refl, sym, ap, ◌∙◌, subst, inl, inr, arith}
use Rattle.std.specs.List.{sum_by, count_by}
use Rattle.std.proofs.lemmas.Bool.{cases_eq}
use Rattle.std.proofs.lemmas.List.{length-set}
use Rattle.std.proofs.lemmas.List.Sums.{sum_by-cons, sum_by-set, get_or-le-sum_by}
use Rattle.explorer_model.specs.declared.chess.Color.{Color}
use Rattle.explorer_model.specs.declared.chess.Color.TheVariants.{White, Black}
use Rattle.explorer_model.specs.declared.chess.Role.{Role}
use Rattle.explorer_model.specs.declared.chess.Role.TheVariants.{King}
use Rattle.explorer_model.specs.declared.chess.Piece.{Piece}
use Rattle.explorer_model.specs.declared.chess.Position.{Position}
use Rattle.explorer_model.specs.declared.chess.Move.{Move}
use Rattle.explorer_model.specs.Board.{opponent, piece_of, piece_at, IsPiece, IsAttacked, InCheck}
use Rattle.explorer_model.specs.Chess.{is_color, is_king_of, HasPieces, IsValid, RoleMoves, PseudoLegal, arriving, squares_after}
use Rattle.legal_moves.proofs.Writes.{and-left, and-right}
use Rattle.legal_moves.proofs.Facts.{Mover, mover, piece_is, is_own}
use Rattle.legal_moves.proofs.Victim.{victim}
use Rattle.legal_moves.proofs.Kept.{length-after, piece_at-after, keeps_pieces, IsUnmet, unmet, stands_after, placed_to}
use Rattle.legal_moves.proofs.BitboardFacts.{piece_at-else}
use Rattle.explorer_model.proofs.Pieces.{king_role}

pub has_pieces : (p : Position) (color : Color) → IsValid p → HasPieces p.squares color
has_pieces p White valid = valid.white
has_pieces p Black valid = valid.black

pub color_is : (a b : Color) → is_color a b ≡ true → a ≡ b
color_is White White e = refl
color_is White Black e = cc
color_is Black White e = cc
color_is Black Black e = refl

king_of : (color : Color) (occupant : Option Piece) → is_king_of color occupant ≡ true → IsPiece color King occupant
king_of color None e = cc
king_of color (Some piece) e = (color_is piece.color color (and-left _ _ e), king_role piece.role (and-right (is_color piece.color color) _ e))

pub color_self : (color : Color) → is_color color color ≡ true
color_self White = refl
color_self Black = refl

is_king_piece : (color : Color) (occupant : Option Piece) → IsPiece color King occupant → is_king_of color occupant ≡ true
is_king_piece color occupant h = ap (is_king_of color) (piece_is color King occupant h) ∙ ap (λ b. b && true) (color_self color)

weight : Color → Option Piece → ℕ
weight color occupant = cond (is_king_of color occupant) 1 0

weighs_one : (color : Color) (occupant : Option Piece) → IsPiece color King occupant → weight color occupant ≡ 1
unfolding weight
weighs_one color occupant h = ap (λ b. cond b 1 0) (is_king_piece color occupant h)

record SomeKing (squares : List (Option Piece)) (color : Color) : Type 0 where
  at : ℕ
  inside : at < length squares
  king : IsPiece color King (piece_at squares at)

later_king : (occupant : Option Piece) (squares : List (Option Piece)) (color : Color) → SomeKing squares color → SomeKing (occupant ∷ squares) color
later_king occupant squares color k = record { at = suc k.at; inside = (let h : k.at < length squares = k.inside in omega arith); king = k.king }

king_by : (occupant : Option Piece) (squares : List (Option Piece)) (color : Color) → 1 ≤ count_by (is_king_of color) (occupant ∷ squares)
    → (1 ≤ count_by (is_king_of color) squares → SomeKing squares color)
    → (test : Bool) → is_king_of color occupant ≡ test → SomeKing (occupant ∷ squares) color
unfolding weight
king_by occupant squares color h later true e = record { at = 0; inside = omega arith; king = king_of color occupant e }
king_by occupant squares color h later false e =
    let more : count_by (is_king_of color) (occupant ∷ squares) ≡ weight color occupant + count_by (is_king_of color) squares = sum_by-cons (weight color) occupant squares in
    let none : weight color occupant ≡ 0 = ap (λ b. cond b 1 0) e in
    later_king occupant squares color (later (omega arith))

some_king : (squares : List (Option Piece)) (color : Color) → 1 ≤ count_by (is_king_of color) squares → SomeKing squares color
some_king [] color h = absurd (omega arith)
some_king (occupant ∷ squares) color h = king_by occupant squares color h (λ rest. some_king squares color rest) (is_king_of color occupant) refl

two_kings : (squares : List (Option Piece)) (color : Color) (i j : ℕ) → length squares ≡ 64 → count_by (is_king_of color) squares ≡ 1
    → i < 64 → j < 64 → IsPiece color King (piece_at squares i) → IsPiece color King (piece_at squares j) → (j ≡ i → ⊥) → ⊥
unfolding weight
two_kings squares color i j whole one i_on j_on i_king j_king apart =
    let without : List (Option Piece) = set squares i None in
    let inside : i < length squares = omega arith in
    let gone : sum_by (weight color) without + weight color (piece_at squares i) ≡ sum_by (weight color) squares + weight color None =
    sum_by-set (weight color) squares i None None inside in
    let count : sum_by (weight color) squares ≡ 1 = one in
    let first : weight color (piece_at squares i) ≡ 1 = weighs_one color (piece_at squares i) i_king in
    let whole_without : length without ≡ 64 = length-set squares i None ∙ whole in
    let still : weight color (piece_at without j) ≤ sum_by (weight color) without = get_or-le-sum_by (weight color) without j None (let h : length without ≡ 64 = whole_without in omega arith) in
    let second : weight color (piece_at without j) ≡ 1 = ap (weight color) (piece_at-else squares i j None apart) ∙ weighs_one color (piece_at squares j) j_king in
    let none : weight color None ≡ 0 = refl in
    absurd (omega arith)

pub one_king : (squares : List (Option Piece)) (color : Color) (i j : ℕ) → length squares ≡ 64 → count_by (is_king_of color) squares ≡ 1
    → i < 64 → j < 64 → IsPiece color King (piece_at squares i) → IsPiece color King (piece_at squares j) → j ≡ i
one_king squares color i j whole one i_on j_on i_king j_king = elim (cases_eq j i) [
  | inl e ↦ e
  | inr apart ↦ absurd (two_kings squares color i j whole one i_on j_on i_king j_king apart)
]

-- there is a king to be found
pub king_somewhere : (p : Position) (color : Color) → IsValid p → (k : ℕ) × (k < 64) × IsPiece color King (piece_at p.squares k)
king_somewhere p color valid =
    let one : count_by (is_king_of color) p.squares ≡ 1 = (has_pieces p color valid).0 in
    let k : SomeKing p.squares color = some_king p.squares color (omega arith) in
    let whole : length p.squares ≡ 64 = valid.board in
    let inside : k.at < length p.squares = k.inside in
    (k.at, omega arith, k.king)

pub check_at : (squares : List (Option Piece)) (color : Color) (k : ℕ) → length squares ≡ 64 → count_by (is_king_of color) squares ≡ 1 → k < 64
    → IsPiece color King (piece_at squares k) → IsAttacked squares (opponent color) k ↔ InCheck squares color
check_at squares color k whole one on king = (
  λ attacked. (k, on, king, attacked),
  λ check.
      let P : ℕ → Type 0 = λ s. IsAttacked squares (opponent color) s in
      subst P (one_king squares color k check.0 whole one on check.1 king check.2) check.3,
)

-- The king after a pseudo-legal move.

king_goes : (turn : Color) (p : Position) (role : Role) (m : Move) → role ≡ King → RoleMoves p role m → IsPiece turn King (arriving (piece_of turn role) m.promotion)
king_goes turn p role m is goes =
    let P : Role → Type 0 = λ r. RoleMoves p r m in
    let unpromoted : m.promotion ≡ None = (subst P is goes).1 in
    let Arrived : Option Role → Type 0 = λ o. IsPiece turn King (arriving (piece_of turn role) o) in
    subst Arrived (sym unpromoted) (refl, is)

pub king_moved : (p : Position) (m : Move) → PseudoLegal p m → IsPiece p.turn King (piece_at p.squares m.from.index)
    → IsPiece p.turn King (piece_at (squares_after p m) m.to.index)
king_moved p m pseudo_legal king =
    let moving : Mover p m = mover p m pseudo_legal in
    let Stands : Option Piece → Type 0 = λ o. IsPiece p.turn King o in
    let Arrived : Option Piece → Type 0 = λ o. IsPiece p.turn King (arriving o m.promotion) in
    let is : moving.role ≡ King = (subst Stands moving.stands king).1 in
    subst Stands (sym (piece_at-after p m m.to.index m.to.on_board ∙ placed_to p m))
    (subst Arrived (sym moving.stands) (king_goes p.turn p moving.role m is moving.goes))

pub king_stayed : (p : Position) (m : Move) (k : ℕ) → IsValid p → PseudoLegal p m → k < 64 → IsPiece p.turn King (piece_at p.squares k) → (m.from.index ≡ k → ⊥)
    → IsPiece p.turn King (piece_at (squares_after p m) k)
king_stayed p m k valid pseudo_legal on king apart =
    let stands : piece_at p.squares k ≡ piece_of p.turn King = piece_is p.turn King _ king in
    let not_to : k ≢ m.to.index = λ e. pseudo_legal.1 (is_own p.turn King _ (ap (piece_at p.squares) (sym e) ∙ stands)) in
    let here : IsUnmet p m k =
    unmet p m k p.turn King valid (mover p m pseudo_legal) stands (λ e. cc) (λ e. apart (sym e)) not_to (λ _. λ _. λ e. cc) in
    stands_after p m k p.turn King on here king

pub check_after : (p : Position) (m : Move) (k : ℕ) → IsValid p → PseudoLegal p m → k < 64 → IsPiece p.turn King (piece_at (squares_after p m) k)
    → IsAttacked (squares_after p m) (opponent p.turn) k ↔ InCheck (squares_after p m) p.turn
check_after p m k valid pseudo_legal on king =
    check_at (squares_after p m) p.turn k (length-after p m)
    (keeps_pieces p m p.turn pseudo_legal (victim p m valid pseudo_legal) (has_pieces p p.turn valid)).0 on king

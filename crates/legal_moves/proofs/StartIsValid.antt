-- The starting position is valid.
use Rattle.std.proofs.Common.{◌≡◌, ◌≢◌, ℕ, Bool, true, false, not, ◌&&◌, ◌||◌, ◌==◌, List, Option, Some, None, refl, ◌∙◌, ap, subst, lit≤}
use Rattle.explorer_model.specs.declared.chess.Color.{Color}
use Rattle.explorer_model.specs.declared.chess.Color.TheVariants.{White, Black}
use Rattle.explorer_model.specs.declared.chess.Role.TheVariants.{King}
use Rattle.explorer_model.specs.declared.chess.Side.TheVariants.{Short, Long}
use Rattle.explorer_model.specs.declared.chess.Piece.{Piece}
use Rattle.explorer_model.specs.Board.{files_apart, ranks_apart, rank_of, piece_at, IsOfColor, IsPiece, PieceAttacks, InCheck}
use Rattle.explorer_model.specs.Chess.{start, start_squares, is_color, is_king, is_pawn, is_king_of, is_of_color, is_pawn_at, IsPawn, HasPawnsInside, RightsStand, IsValid}
use Rattle.step_tables.specs.Test.{all_below}
use Rattle.step_tables.proofs.Test.{all_below-at}
use Rattle.legal_moves.proofs.MoveSpans.{spans, attacks-spans}
use Rattle.legal_moves.proofs.OneKing.{color_self}

excluded : (x y : Bool) → not x || y ≡ true → x ≡ true → y ≡ true
excluded true y h e = h
excluded false y h e = cc

-- No pawn is on rank 1 or 8.

pawn_inside : ℕ → Bool
pawn_inside s = not (is_pawn_at (piece_at start_squares s)) || not ((rank_of s == 0) || (rank_of s == 7))

pawns_inside : all_below pawn_inside 64 ≡ true
unfolding all_below pawn_inside
pawns_inside = refl

pawn_is : (occupant : Option Piece) → IsPawn occupant → is_pawn_at occupant ≡ true
pawn_is None h = absurd h
pawn_is (Some piece) h = ap is_pawn h

inside : (rank : ℕ) → not ((rank == 0) || (rank == 7)) ≡ true → (rank ≢ 0) × (rank ≢ 7)
inside rank h = (λ e. let P : ℕ → Type 0 = λ r. not ((r == 0) || (r == 7)) ≡ true in let no : false ≡ true = subst P e h in cc, λ e. let P : ℕ → Type 0 = λ r. not ((r == 0) || (r == 7)) ≡ true in let no : false ≡ true = subst P e h in cc)

start_pawns : HasPawnsInside start_squares
unfolding pawn_inside
start_pawns s on pawn = inside (rank_of s) (excluded _ _ (all_below-at pawn_inside 64 pawns_inside s on) (pawn_is (piece_at start_squares s) pawn))

-- No piece of White's is on a line with Black's king, or within a step of it.

piece_spans : Option Piece → ℕ → ℕ → Bool
piece_spans None a b = false
piece_spans (Some piece) a b = spans piece.role (files_apart a b) (ranks_apart a b)

king_apart : ℕ → ℕ → Bool
king_apart k a = not (is_king_of Black (piece_at start_squares k)) || (not (is_of_color White (piece_at start_squares a)) || not (piece_spans (piece_at start_squares a) a k))

kings_apart : all_below (λ k. all_below (king_apart k) 64) 64 ≡ true
unfolding all_below king_apart piece_spans spans
kings_apart = refl

king_is : (color : Color) (occupant : Option Piece) → IsPiece color King occupant → is_king_of color occupant ≡ true
king_is color None h = absurd h
king_is color (Some piece) h = ap (λ c. is_color c color && is_king piece.role) h.0 ∙ ap (λ r. is_color color color && is_king r) h.1 ∙ ap (λ b. b && true) (color_self color)

piece_is : (color : Color) (occupant : Option Piece) → IsOfColor color occupant → is_of_color color occupant ≡ true
piece_is color None h = absurd h
piece_is color (Some piece) h = ap (λ c. is_color c color) h ∙ color_self color

occupant-spans : (squares : List (Option Piece)) (occupant : Option Piece) (a b : ℕ) → PieceAttacks squares occupant a b → piece_spans occupant a b ≡ true
unfolding piece_spans
occupant-spans squares None a b h = absurd h
occupant-spans squares (Some piece) a b h = attacks-spans squares piece.color piece.role a b h

not_both : (x : Bool) → not x ≡ true → x ≡ true → ⊥
not_both true h e = cc
not_both false h e = cc

start_quiet : ¬ InCheck start_squares Black
unfolding king_apart
start_quiet h =
    let k : ℕ = h.0 in
    let a : ℕ = h.3.0 in
    let row : all_below (king_apart k) 64 ≡ true = all_below-at (λ k. all_below (king_apart k) 64) 64 kings_apart k h.1 in
    let one : king_apart k a ≡ true = all_below-at (king_apart k) 64 row a h.3.1 in
    not_both (piece_spans (piece_at start_squares a) a k)
    (excluded _ _ (excluded _ _ one (king_is Black (piece_at start_squares k) h.2)) (piece_is White (piece_at start_squares a) h.3.2))
    (occupant-spans start_squares (piece_at start_squares a) a k h.3.3)

start_rights : RightsStand start
start_rights White Short h = ((refl, refl), (refl, refl))
start_rights White Long h = ((refl, refl), (refl, refl))
start_rights Black Short h = ((refl, refl), (refl, refl))
start_rights Black Long h = ((refl, refl), (refl, refl))

pub start_is_valid : IsValid start
start_is_valid = record {
  board = refl;
  white = (refl, lit≤ tt);
  black = (refl, lit≤ tt);
  pawns = start_pawns;
  not_in_check = start_quiet;
  rights = start_rights;
  en_passant = λ s h. absurd h;
}

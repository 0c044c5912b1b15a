-- What the kept sets of pieces tell of a board.
use Rattle.std.proofs.Common.{◌≡◌, ◌↔◌, ℕ, ◌⊎◌, Bool, true, false, IsTrue, List, Option, Some, None, bit_and, bit_or, refl, sym, ap, subst, inl, inr}
use Rattle.step_tables.specs.Bitboard.{Holds}
use Rattle.step_tables.proofs.BitboardLemmas.{Holds-and, Holds-or}
use Rattle.explorer_model.specs.declared.chess.Color.{Color}
use Rattle.explorer_model.specs.declared.chess.Color.TheVariants.{White, Black}
use Rattle.explorer_model.specs.declared.chess.Role.{Role}
use Rattle.explorer_model.specs.declared.chess.Role.TheVariants.{Pawn, Knight, Bishop, Rook, Queen, King}
use Rattle.explorer_model.specs.declared.chess.Piece.{Piece}
use Rattle.explorer_model.specs.Board.{piece_at, IsOfColor, IsPiece}
use Rattle.explorer_model.specs.Chess.{is_color, is_of_color}
use Rattle.explorer_model.specs.San.{IsRole}
use Rattle.legal_moves.specs.declared.piece_sets.PieceSets.{PieceSets}
use Rattle.legal_moves.specs.EnemySets.{IsOccupied, IsBitboardOf, Describes}
use Rattle.legal_moves.specs.PieceSets.{is_role, is_of, set_of, sets_in}
use Rattle.legal_moves.proofs.PieceSetLemmas.{set_of-tells, role_same, role_self}
use Rattle.legal_moves.proofs.OneKing.{color_is, color_self}

-- What the tests say.

piece_of-says : (color : Color) (occupant : Option Piece) → IsTrue (is_of_color color occupant) ↔ IsOfColor color occupant
piece_of-says color None = (λ (no_way : false ≡ true). cc, λ h. absurd h)
piece_of-says color (Some piece) = (
  λ e. color_is piece.color color e,
  λ e. let P : Color → Type 0 = λ c. is_color piece.color c ≡ true in subst P e (color_self piece.color),
)

of-says : (role : Role) (occupant : Option Piece) → IsTrue (is_of role occupant) ↔ IsRole role occupant
of-says role None = (λ (no_way : false ≡ true). cc, λ h. absurd h)
of-says role (Some piece) = (
  λ e. sym (role_same role piece.role e),
  λ e. let P : Role → Type 0 = λ r. is_role r piece.role ≡ true in subst P e (role_self piece.role),
)

tells_such : (test : Option Piece → Bool) (IsSuch : Option Piece → Type 0) (squares : List (Option Piece)) (bitboard : ℕ) → test None ≡ false
    → ((occupant : Option Piece) → IsTrue (test occupant) ↔ IsSuch occupant) → bitboard ≡ set_of test squares → IsBitboardOf IsSuch squares bitboard
tells_such test IsSuch squares bitboard none says told s on =
    let P : ℕ → Type 0 = λ n. Holds n s ↔ IsSuch (piece_at squares s) in
    subst P (sym told) (
      λ bit. (says (piece_at squares s)).0 ((set_of-tells test squares s none).0 bit),
      λ such. (set_of-tells test squares s none).1 ((says (piece_at squares s)).1 such),
    )

of_color : (color : Color) (squares : List (Option Piece)) (bitboard : ℕ) → bitboard ≡ set_of (is_of_color color) squares → IsBitboardOf (IsOfColor color) squares bitboard
of_color color squares bitboard told = tells_such (is_of_color color) (IsOfColor color) squares bitboard refl (piece_of-says color) told

of_role : (role : Role) (squares : List (Option Piece)) (bitboard : ℕ) → bitboard ≡ set_of (is_of role) squares → IsBitboardOf (IsRole role) squares bitboard
of_role role squares bitboard told = tells_such (is_of role) (IsRole role) squares bitboard refl (of-says role) told

pub record Places (squares : List (Option Piece)) (sets : PieceSets) : Type 0 where
  pub white : IsBitboardOf (IsOfColor White) squares sets.white
  pub black : IsBitboardOf (IsOfColor Black) squares sets.black
  pub pawns : IsBitboardOf (IsRole Pawn) squares sets.pawns
  pub knights : IsBitboardOf (IsRole Knight) squares sets.knights
  pub bishops : IsBitboardOf (IsRole Bishop) squares sets.bishops
  pub rooks : IsBitboardOf (IsRole Rook) squares sets.rooks
  pub queens : IsBitboardOf (IsRole Queen) squares sets.queens
  pub kings : IsBitboardOf (IsRole King) squares sets.kings

pub sets-place : (squares : List (Option Piece)) (sets : PieceSets) → sets ≡ sets_in squares → Places squares sets
unfolding sets_in
sets-place squares sets told = record {
  white = of_color White squares sets.white (ap (λ sets. sets.white) told);
  black = of_color Black squares sets.black (ap (λ sets. sets.black) told);
  pawns = of_role Pawn squares sets.pawns (ap (λ sets. sets.pawns) told);
  knights = of_role Knight squares sets.knights (ap (λ sets. sets.knights) told);
  bishops = of_role Bishop squares sets.bishops (ap (λ sets. sets.bishops) told);
  rooks = of_role Rook squares sets.rooks (ap (λ sets. sets.rooks) told);
  queens = of_role Queen squares sets.queens (ap (λ sets. sets.queens) told);
  kings = of_role King squares sets.kings (ap (λ sets. sets.kings) told);
}

-- Sets that are made of two.

both : (color : Color) (role : Role) (squares : List (Option Piece)) (theirs such : ℕ) → IsBitboardOf (IsOfColor color) squares theirs
    → IsBitboardOf (IsRole role) squares such → IsBitboardOf (IsPiece color role) squares (bit_and theirs such)
both color role squares theirs such is_theirs is_such s on = (
  λ bit. let h : Holds theirs s × Holds such s = (Holds-and theirs such s).0 bit in
      occupant (piece_at squares s) ((is_theirs s on).0 h.0) ((is_such s on).0 h.1),
  λ h. (Holds-and theirs such s).1 ((is_theirs s on).1 (colored (piece_at squares s) h), (is_such s on).1 (roled (piece_at squares s) h)),
)
  where
    occupant : (o : Option Piece) → IsOfColor color o → IsRole role o → IsPiece color role o
    occupant None c r = absurd c
    occupant (Some piece) c r = (c, r)

    colored : (o : Option Piece) → IsPiece color role o → IsOfColor color o
    colored None h = absurd h
    colored (Some piece) h = h.0

    roled : (o : Option Piece) → IsPiece color role o → IsRole role o
    roled None h = absurd h
    roled (Some piece) h = h.1

either : (color : Color) (role other : Role) (squares : List (Option Piece)) (theirs such more : ℕ) → IsBitboardOf (IsOfColor color) squares theirs
    → IsBitboardOf (IsRole role) squares such → IsBitboardOf (IsRole other) squares more
    → IsBitboardOf (λ occupant. IsPiece color role occupant ⊎ IsPiece color other occupant) squares (bit_and theirs (bit_or such more))
either color role other squares theirs such more is_theirs is_such is_more s on = (
  λ bit.
      let h : Holds theirs s × Holds (bit_or such more) s = (Holds-and theirs (bit_or such more) s).0 bit in
      elim ((Holds-or such more s).0 h.1) [
        | inl x ↦ inl ((both color role squares theirs such is_theirs is_such s on).0 ((Holds-and theirs such s).1 (h.0, x)))
        | inr y ↦ inr ((both color other squares theirs more is_theirs is_more s on).0 ((Holds-and theirs more s).1 (h.0, y)))
      ],
  λ h. elim h [
    | inl x ↦ (let b : Holds theirs s × Holds such s = (Holds-and theirs such s).0 ((both color role squares theirs such is_theirs is_such s on).1 x) in
        (Holds-and theirs (bit_or such more) s).1 (b.0, (Holds-or such more s).1 (inl b.1)))
    | inr y ↦ (let b : Holds theirs s × Holds more s = (Holds-and theirs more s).0 ((both color other squares theirs more is_theirs is_more s on).1 y) in
        (Holds-and theirs (bit_or such more) s).1 (b.0, (Holds-or such more s).1 (inr b.1)))
  ],
)

occupied : (squares : List (Option Piece)) (white black : ℕ) → IsBitboardOf (IsOfColor White) squares white → IsBitboardOf (IsOfColor Black) squares black
    → IsBitboardOf IsOccupied squares (bit_or white black)
occupied squares white black is_white is_black s on = (
  λ bit. elim ((Holds-or white black s).0 bit) [
    | inl x ↦ there White (piece_at squares s) ((is_white s on).0 x)
    | inr y ↦ there Black (piece_at squares s) ((is_black s on).0 y)
  ],
  λ h. (Holds-or white black s).1 (elim (colored (piece_at squares s) h) [ inl x ↦ inl ((is_white s on).1 x) | inr y ↦ inr ((is_black s on).1 y) ]),
)
  where
    there : (color : Color) (o : Option Piece) → IsOfColor color o → IsOccupied o
    there color None h = h
    there color (Some piece) h = tt

    color_of : (color : Color) → (color ≡ White) ⊎ (color ≡ Black)
    color_of White = inl refl
    color_of Black = inr refl

    colored : (o : Option Piece) → IsOccupied o → IsOfColor White o ⊎ IsOfColor Black o
    colored None h = absurd h
    colored (Some piece) h = color_of piece.color

pub describes-sets : (squares : List (Option Piece)) (sets : PieceSets) (enemy : Color) (theirs : ℕ) → Places squares sets
    → IsBitboardOf (IsOfColor enemy) squares theirs
    → Describes squares enemy (record {
      occupied = bit_or sets.white sets.black;
      pawns = bit_and theirs sets.pawns;
      knights = bit_and theirs sets.knights;
      diagonals = bit_and theirs (bit_or sets.bishops sets.queens);
      straights = bit_and theirs (bit_or sets.rooks sets.queens);
      king = bit_and theirs sets.kings;
    })
describes-sets squares sets enemy theirs places is = record {
  occupied = occupied squares sets.white sets.black places.white places.black;
  pawns = both enemy Pawn squares theirs sets.pawns is places.pawns;
  knights = both enemy Knight squares theirs sets.knights is places.knights;
  diagonals = either enemy Bishop Queen squares theirs sets.bishops sets.queens is places.bishops places.queens;
  straights = either enemy Rook Queen squares theirs sets.rooks sets.queens is places.rooks places.queens;
  king = both enemy King squares theirs sets.kings is places.kings;
}

-- the own king and the own pawns

pub king_among : (squares : List (Option Piece)) (sets : PieceSets) (color : Color) (theirs : ℕ) → Places squares sets
    → IsBitboardOf (IsOfColor color) squares theirs → IsBitboardOf (IsPiece color King) squares (bit_and theirs sets.kings)
king_among squares sets color theirs places is = both color King squares theirs sets.kings is places.kings

pub pawns_among : (squares : List (Option Piece)) (sets : PieceSets) (color : Color) (theirs : ℕ) → Places squares sets
    → IsBitboardOf (IsOfColor color) squares theirs → IsBitboardOf (IsPiece color Pawn) squares (bit_and theirs sets.pawns)
pawns_among squares sets color theirs places is = both color Pawn squares theirs sets.pawns is places.pawns

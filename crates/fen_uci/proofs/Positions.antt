-- What the fields of a text say together, and which of them is faulty first.
use Rattle.std.proofs.Common.{◌≡◌, ℕ, suc, ◌≤◌, ◌↔◌, Bool, true, false, IsTrue, List, Option, Some, None, sym, subst, ◌∙◌, arith}
use Rattle.std.proofs.lemmas.Option.{same_Some}
use Rattle.explorer_model.specs.declared.chess.Color.{Color}
use Rattle.explorer_model.specs.declared.chess.Color.TheVariants.{White, Black}
use Rattle.explorer_model.specs.declared.chess.Side.{Side}
use Rattle.explorer_model.specs.declared.chess.Side.TheVariants.{Short, Long}
use Rattle.explorer_model.specs.declared.chess.Role.TheVariants.{King, Rook}
use Rattle.explorer_model.specs.declared.chess.Piece.{Piece}
use Rattle.explorer_model.specs.declared.chess.Rights.{Rights}
use Rattle.explorer_model.specs.declared.chess.Position.{Position}
use Rattle.explorer_model.specs.declared.square.Square.{Square}
use Rattle.explorer_model.specs.Board.{piece_at, IsPiece}
use Rattle.explorer_model.specs.Chess.{king_home, rook_home, has_right, start, IsValid}
use Rattle.explorer_model.specs.Fen.{PlacesPieces, GivesTurn, rights_named, KeepsRights, GivesRights, en_passant_named, GivesEnPassant, GivesPosition, KeepsUpTo, IsFirstFault, field, has_clock, has_number}
use Rattle.fen_uci.proofs.Ranks.{placement_size}

-- whether one right is kept
abbrev pub Keeps : List (Option Piece) → Rights → Color → Side → Bool → Type 0
Keeps squares named color side kept =
    IsTrue kept
    ↔ (IsTrue (has_right named color side)
    × IsPiece color King (piece_at squares (king_home color)) × IsPiece color Rook (piece_at squares (rook_home color side)))

pub keeps_all : (squares : List (Option Piece)) (named : Rights) (white_short white_long black_short black_long : Bool)
    → Keeps squares named White Short white_short → Keeps squares named White Long white_long
    → Keeps squares named Black Short black_short → Keeps squares named Black Long black_long
    → KeepsRights squares named (record { white_short = white_short; white_long = white_long; black_short = black_short; black_long = black_long })
keeps_all squares named a b c d ws wl bs bl White Short = ws
keeps_all squares named a b c d ws wl bs bl White Long = wl
keeps_all squares named a b c d ws wl bs bl Black Short = bs
keeps_all squares named a b c d ws wl bs bl Black Long = bl

-- A position that keeps the rules of some fields, one field after another.

pub keep_1 : (text : List ℕ) (p : Position) → PlacesPieces text p.squares → KeepsUpTo 1 text p
keep_1 text p pieces =
    (λ _. pieces, λ le. absurd (omega (arith, le)), λ le. absurd (omega (arith, le)), λ le. absurd (omega (arith, le)), λ le. absurd (omega (arith, le)), λ le. absurd (omega (arith, le)))

pub keep_2 : (text : List ℕ) (p : Position) → PlacesPieces text p.squares → GivesTurn text p.squares p.turn → KeepsUpTo 2 text p
keep_2 text p pieces turn =
    (λ _. pieces, λ _. turn, λ le. absurd (omega (arith, le)), λ le. absurd (omega (arith, le)), λ le. absurd (omega (arith, le)), λ le. absurd (omega (arith, le)))

pub keep_3 : (text : List ℕ) (p : Position) → PlacesPieces text p.squares → GivesTurn text p.squares p.turn → GivesRights text p.squares p.rights → KeepsUpTo 3 text p
keep_3 text p pieces turn rights =
    (λ _. pieces, λ _. turn, λ _. rights, λ le. absurd (omega (arith, le)), λ le. absurd (omega (arith, le)), λ le. absurd (omega (arith, le)))

pub keep_4 : (text : List ℕ) (p : Position) → PlacesPieces text p.squares → GivesTurn text p.squares p.turn → GivesRights text p.squares p.rights
    → GivesEnPassant text p.squares p.turn p.en_passant → KeepsUpTo 4 text p
keep_4 text p pieces turn rights en_passant =
    (λ _. pieces, λ _. turn, λ _. rights, λ _. en_passant, λ le. absurd (omega (arith, le)), λ le. absurd (omega (arith, le)))

pub keep_5 : (text : List ℕ) (p : Position) → KeepsUpTo 4 text p → IsTrue (has_clock text) → KeepsUpTo 5 text p
keep_5 text p kept clock =
    (λ _. kept.0 (omega arith), λ _. kept.1 (omega arith), λ _. kept.2 (omega arith), λ _. kept.3 (omega arith), λ _. clock, λ le. absurd (omega (arith, le)))

-- there is no field behind the sixth
pub keep_any : (text : List ℕ) (number : ℕ) (p : Position) → KeepsUpTo 5 text p → IsTrue (has_number text) → KeepsUpTo number text p
keep_any text number p kept count =
    (λ _. kept.0 (omega arith), λ _. kept.1 (omega arith), λ _. kept.2 (omega arith), λ _. kept.3 (omega arith), λ _. kept.4 (omega arith), λ _. count)

pub keep_none : (text : List ℕ) (p : Position) → KeepsUpTo 0 text p
keep_none text p = (
  λ le. absurd (omega (arith, le)),
  λ le. absurd (omega (arith, le)),
  λ le. absurd (omega (arith, le)),
  λ le. absurd (omega (arith, le)),
  λ le. absurd (omega (arith, le)),
  λ le. absurd (omega (arith, le)),
)

pub keep_less : (text : List ℕ) (p : Position) (less more : ℕ) → less ≤ more → KeepsUpTo more text p → KeepsUpTo less text p
keep_less text p less more le kept = (
  λ at. kept.0 (omega (arith, le, at)),
  λ at. kept.1 (omega (arith, le, at)),
  λ at. kept.2 (omega (arith, le, at)),
  λ at. kept.3 (omega (arith, le, at)),
  λ at. kept.4 (omega (arith, le, at)),
  λ at. kept.5 (omega (arith, le, at)),
)

-- no field of a text that gives a position is faulty
pub never_faulty : (text : List ℕ) (p : Position) → GivesPosition text p → (number : ℕ) → ¬ IsFirstFault number text
never_faulty text p (pieces, moves, castles, crosses, clock, count) number first =
    first.none p (keep_any text number p (keep_5 text p (keep_4 text p pieces moves castles crosses) clock) count)

-- The first faulty field: a position keeps the rules of those before it, and none keeps its own too.

first_fault : (text : List ℕ) (number : ℕ) (p : Position) → KeepsUpTo number text p → ((q : Position) → ¬ KeepsUpTo (suc number) text q) → IsFirstFault (suc number) text
first_fault text number p kept none = record {
  left = λ before less. (p, keep_less text p before number (omega (arith, less)) kept);
  none = none;
}

pub first_1 : (text : List ℕ) → ((squares : List (Option Piece)) → ¬ PlacesPieces text squares) → IsFirstFault 1 text
first_1 text none = first_fault text 0 start (keep_none text start) (λ q kept. none q.squares (kept.0 (omega arith)))

pub first_2 : (text : List ℕ) (squares : List (Option Piece)) → PlacesPieces text squares → ((turn : Color) → ¬ GivesTurn text squares turn) → IsFirstFault 2 text
first_2 text squares pieces none =
    let p : Position = record start { squares = squares } in
    first_fault text 1 p (keep_1 text p pieces) (λ q kept.
    let others = kept.0 (omega arith) in
    let same : q.squares ≡ squares = same_Some q.squares squares (sym others.0 ∙ pieces.0) in
    none q.turn (subst (λ (xs : List (Option Piece)). GivesTurn text xs q.turn) same (kept.1 (omega arith))))

pub first_3 : (text : List ℕ) (squares : List (Option Piece)) (turn : Color) → PlacesPieces text squares → GivesTurn text squares turn
    → rights_named (field 3 text) ≡ None → IsFirstFault 3 text
first_3 text squares turn pieces moves none =
    let p : Position = record start { squares = squares; turn = turn } in
    first_fault text 2 p (keep_2 text p pieces moves) (λ q kept. let (named, is, keeps) = kept.2 (omega arith) in cc)

pub first_4 : (text : List ℕ) (squares : List (Option Piece)) (turn : Color) (rights : Rights) → PlacesPieces text squares → GivesTurn text squares turn
    → GivesRights text squares rights → en_passant_named turn (field 4 text) ≡ None → IsFirstFault 4 text
first_4 text squares turn rights pieces moves castles none =
    let p : Position = record start { squares = squares; turn = turn; rights = rights } in
    first_fault text 3 p (keep_3 text p pieces moves castles) (λ q kept.
    let (named, is, keeps) = kept.3 (omega arith) in
    let turns = kept.1 (omega arith) in
    let same : q.turn ≡ turn = same_Some q.turn turn (sym turns.0 ∙ moves.0) in
    let here = subst (λ (c : Color). en_passant_named c (field 4 text) ≡ Some named) same is in cc)

pub first_5 : (text : List ℕ) (squares : List (Option Piece)) (turn : Color) (rights : Rights) (en_passant : Option Square)
    → PlacesPieces text squares → GivesTurn text squares turn → GivesRights text squares rights → GivesEnPassant text squares turn en_passant
    → has_clock text ≡ false → IsFirstFault 5 text
first_5 text squares turn rights en_passant pieces moves castles crosses none =
    let p : Position = record { squares = squares; turn = turn; rights = rights; en_passant = en_passant } in
    first_fault text 4 p (keep_4 text p pieces moves castles crosses) (λ q kept. let clock = kept.4 (omega arith) in cc)

pub first_6 : (text : List ℕ) (squares : List (Option Piece)) (turn : Color) (rights : Rights) (en_passant : Option Square)
    → PlacesPieces text squares → GivesTurn text squares turn → GivesRights text squares rights → GivesEnPassant text squares turn en_passant
    → has_clock text ≡ true → has_number text ≡ false → IsFirstFault 6 text
first_6 text squares turn rights en_passant pieces moves castles crosses clock none =
    let p : Position = record { squares = squares; turn = turn; rights = rights; en_passant = en_passant } in
    first_fault text 5 p (keep_5 text p (keep_4 text p pieces moves castles crosses) clock) (λ q kept. let count = kept.5 (omega arith) in cc)

-- a position that a text gives is valid
pub gives_valid : (text : List ℕ) (p : Position) → GivesPosition text p → IsValid p
gives_valid text p ((placed, white, black, pawns), (moves, safe), (named, is, keeps), (crossed, named_en_passant, kept), clock, number) = record {
  board = placement_size (field 1 text) p.squares placed;
  white = white;
  black = black;
  pawns = pawns;
  not_in_check = safe;
  rights = λ color side has. let (there, king, rook) = (keeps color side).0 has in (king, rook);
  en_passant = λ s there. ((kept s).0 there).1;
}

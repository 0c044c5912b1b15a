-- A move is written in seven bytes at most, before its mark (PGN 8.2.3.6).
use Rattle.std.proofs.Common.{◌≡◌, ℕ, ◌+◌, ◌≤◌, Bool, true, false, Option, Some, None, length, arith, length-append, subst, sym, ap, if◌then◌else◌}
use Rattle.explorer_model.specs.declared.chess.Role.{Role}
use Rattle.explorer_model.specs.declared.chess.Role.TheVariants.{Pawn, Knight, Bishop, Rook, Queen, King}
use Rattle.explorer_model.specs.declared.chess.Position.{Position}
use Rattle.explorer_model.specs.declared.chess.Move.{Move}
use Rattle.explorer_model.specs.declared.notation.Start.{Start}
use Rattle.explorer_model.specs.declared.notation.Start.TheVariants.{Unnamed, File, Rank, Square}
use Rattle.explorer_model.specs.Board.{piece_at}
use Rattle.explorer_model.specs.Chess.{Legal}
use Rattle.explorer_model.specs.San.{captures, IsRole, StartOf, role_text, start_text, capture_text, promotion_text, named_text}
use Rattle.san_codec.proofs.Moves.{moves_legally}

capture_room : (c : Bool) → length (capture_text c) ≤ 1
capture_room true = omega arith
capture_room false = omega arith

start_room : (start : Start) (s : ℕ) → length (start_text start s) ≤ 2
start_room Unnamed s = omega arith
start_room File s = omega arith
start_room Rank s = omega arith
start_room Square s = omega arith

pawn_start_room : (c : Bool) (start : Start) (s : ℕ) → start ≡ (if c then File else Unnamed) → length (start_text start s) ≤ 1
pawn_start_room true start s e = subst (λ o. length (start_text o s) ≤ 1) (sym e) (omega arith)
pawn_start_room false start s e = subst (λ o. length (start_text o s) ≤ 1) (sym e) (omega arith)

promotion_room : (o : Option Role) → length (promotion_text o) ≤ 2
promotion_room None = omega arith
promotion_room (Some role) = omega arith

no_promotion_room : (o : Option Role) → o ≡ None → length (promotion_text o) ≡ 0
no_promotion_room o e = ap (λ o. length (promotion_text o)) e

piece_room : (role : Role) → length (role_text role) ≤ 1
piece_room Pawn = omega arith
piece_room Knight = omega arith
piece_room Bishop = omega arith
piece_room Rook = omega arith
piece_room Queen = omega arith
piece_room King = omega arith

together : (p : Position) (m : Move) (role : Role) (start : Start)
    → length (role_text role) + length (start_text start m.from.index) + length (promotion_text m.promotion) ≤ 4 → length (named_text p m role start) ≤ 7
together p m role start h =
    let parts = named_text p m role start in
    simp length-append (omega (arith, h, capture_room (captures p m)))

pub named_room : (p : Position) (m : Move) (role : Role) (start : Start) → Legal p m → IsRole role (piece_at p.squares m.from.index)
    → StartOf p m role start → length (named_text p m role start) ≤ 7
named_room p m Pawn start legal is starts =
    together p m Pawn start (omega (arith, pawn_start_room (captures p m) start m.from.index starts, promotion_room m.promotion))
named_room p m Knight start legal is starts =
    together p m Knight start (omega (arith, start_room start m.from.index, no_promotion_room m.promotion (moves_legally p m Knight legal is).1))
named_room p m Bishop start legal is starts =
    together p m Bishop start (omega (arith, start_room start m.from.index, no_promotion_room m.promotion (moves_legally p m Bishop legal is).1))
named_room p m Rook start legal is starts =
    together p m Rook start (omega (arith, start_room start m.from.index, no_promotion_room m.promotion (moves_legally p m Rook legal is).1))
named_room p m Queen start legal is starts =
    together p m Queen start (omega (arith, start_room start m.from.index, no_promotion_room m.promotion (moves_legally p m Queen legal is).1))
named_room p m King start legal is starts =
    together p m King start (omega (arith, start_room start m.from.index, no_promotion_room m.promotion (moves_legally p m King legal is).1))

-- Standard algebraic notation (PGN 8.2.3), worked out on texts whose meaning is known.
use Rattle.std.specs.Prelude.{◌≡◌, ℕ, ◌&&◌, ◌||◌, Bool, true, false, List, [], ◌∷◌, ◌++◌, replicate, Option, Some, None, is_some, Err, codes}
use Rattle.std.proofs.Common.{refl, sym, subst, inl, inr, lit<}
use Rattle.std.proofs.Math.Bool.{and-false}
use Rattle.explorer_model.specs.declared.chess.Color.TheVariants.{White, Black}
use Rattle.explorer_model.specs.declared.chess.Move.{Move}
use Rattle.explorer_model.specs.declared.chess.Piece.{Piece}
use Rattle.explorer_model.specs.declared.chess.Position.{Position}
use Rattle.explorer_model.specs.declared.chess.Role.TheVariants.{Pawn, Knight, Rook, Queen, King}
use Rattle.explorer_model.specs.declared.chess.Side.TheVariants.{Short, Long}
use Rattle.explorer_model.specs.declared.fault.SanFault.TheVariants.{NotSan, NoSuchMove}
use Rattle.explorer_model.specs.declared.notation.SanForm.TheVariants.{Castling, Named}
use Rattle.explorer_model.specs.declared.notation.Start.TheVariants.{Unnamed, File}
use Rattle.explorer_model.specs.declared.square.Square.{Square}
use Rattle.explorer_model.specs.Board.{piece_at, piece_of}
use Rattle.explorer_model.specs.Chess.{is_pawn_at, quiet, start, start_squares}
use Rattle.explorer_model.specs.San.{captures, san_form, MoveText, SanReads}

-- ---- the grammar

-- a knight that starts on file b, to d7
file-is-named : san_form (codes "Nbd7") ≡ Some (Named (record { role = Knight; file = Some 1; rank = None; captures = false; target = 51; promotion = None }))
file-is-named = refl

-- a pawn of file e takes on d8, becomes a queen and gives mate; marks are not counted
pawn-takes-and-becomes-a-queen : san_form (codes "exd8=Q+#") ≡ Some (Named (record { role = Pawn; file = Some 4; rank = None; captures = true; target = 59; promotion = Some Queen }))
pawn-takes-and-becomes-a-queen = refl

-- the equals sign may be left out
sign-is-left-out : san_form (codes "e8N") ≡ Some (Named (record { role = Pawn; file = None; rank = None; captures = false; target = 60; promotion = Some Knight }))
sign-is-left-out = refl

-- both kinds of castling, with letters or zeros
castling-by-zeros : san_form (codes "0-0-0+") ≡ Some (Castling Long)
castling-by-zeros = refl

castling-by-letters : san_form (codes "O-O") ≡ Some (Castling Short)
castling-by-letters = refl

-- a whole square may be named
square-is-named : san_form (codes "Qh4xe1") ≡ Some (Named (record { role = Queen; file = Some 7; rank = Some 3; captures = true; target = 4; promotion = None }))
square-is-named = refl

-- there is no file i and no rank 9, and marks stand at the end alone
no-such-file : san_form (codes "Ni3") ≡ None
no-such-file = refl

no-such-rank : san_form (codes "e9") ≡ None
no-such-rank = refl

mark-in-the-middle : san_form (codes "e8+=Q") ≡ None
mark-in-the-middle = refl

-- ---- moves as they are written

-- the squares from a1 on, and whether the king may castle toward its rook on h1, which is the only right
abbrev white_to_move : List (Option Piece) → Bool → Option Square → Position
white_to_move squares short en_passant = record {
  squares = squares;
  turn = White;
  rights = record { white_short = short; white_long = false; black_short = false; black_long = false };
  en_passant = en_passant;
}

-- a pawn that takes nothing has no letter
pawn-goes-to-e4 : MoveText start (quiet (record { index = 12; on_board = lit< tt }) (record { index = 28; on_board = lit< tt })) (codes "e4")
pawn-goes-to-e4 = inr (refl, (Pawn, Unnamed, refl, refl, refl))

-- the king from e1 to g1, with its rook on h1
abbrev can_castle : Position
can_castle =
    let squares : List (Option Piece) =
    replicate 4 None ++ piece_of White King ∷ None ∷ None ∷ piece_of White Rook ∷ replicate 52 None ++ piece_of Black King ∷ replicate 3 None in
    white_to_move squares true None

castling-is-written : MoveText can_castle (quiet (record { index = 4; on_board = lit< tt }) (record { index = 6; on_board = lit< tt })) (codes "O-O")
castling-is-written = inl (refl, refl)

-- a pawn on e5 takes one that has gone from d7 to d5: its file is named, and the square that it goes to
abbrev can_take_en_passant : Position
can_take_en_passant =
    let squares : List (Option Piece) =
    replicate 4 None ++ piece_of White King ∷ replicate 30 None ++ piece_of Black Pawn ∷ piece_of White Pawn ∷ replicate 23 None ++ piece_of Black King ∷ replicate 3 None in
    white_to_move squares false (Some (record { index = 43; on_board = lit< tt }))

en-passant-is-written : MoveText can_take_en_passant (quiet (record { index = 36; on_board = lit< tt }) (record { index = 43; on_board = lit< tt })) (codes "exd6")
en-passant-is-written = inr (refl, (Pawn, File, refl, refl, refl))

-- a pawn on e7 takes the rook on d8 and becomes a queen
abbrev can_promote : Position
can_promote =
    let squares : List (Option Piece) =
    replicate 4 None ++ piece_of White King ∷ replicate 47 None ++ piece_of White Pawn ∷ replicate 6 None ++ piece_of Black Rook ∷ replicate 3 None ++ piece_of Black King ∷ [] in
    white_to_move squares false None

promotion-is-written : MoveText can_promote (record { from = record { index = 52; on_board = lit< tt }; to = record { index = 59; on_board = lit< tt }; promotion = Some Queen }) (codes "exd8=Q")
promotion-is-written = inr (refl, (Pawn, File, refl, refl, refl))

-- ---- texts that are refused

-- what is off the grammar is no SAN in any position
off-the-grammar : (p : Position) → SanReads p (codes "e9") (Err NotSan)
off-the-grammar p = refl

takes_nothing : (m : Move) → m.to.index ≡ 35 → captures start m ≡ false
takes_nothing m at =
    let pawn : Bool = is_pawn_at (piece_at start_squares m.from.index) in
    let P : ℕ → Type 0 = λ n. (is_some (piece_at start_squares n) || (pawn && false)) ≡ false in
    subst P (sym at) (and-false pawn)

-- at the start there is nothing on d5 to be taken
nothing-to-take : SanReads start (codes "exd5") (Err NoSuchMove)
nothing-to-take = λ m legal agrees.
    let some : captures start m ≡ true = agrees.2.0 in
    let none : captures start m ≡ false = takes_nothing m agrees.2.1 in cc

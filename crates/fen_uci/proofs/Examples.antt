-- The fields of a FEN, worked out on texts whose meaning is known (PGN 16.1).
use Rattle.std.specs.Prelude.{◌≡◌, ℕ, zero, suc, ◌*◌, ◌-◌, Bool, not, true, false, List, [], ◌∷◌, ◌++◌, count_by, take, Option, Some, None, Ok, Err, codes, replicate}
use Rattle.std.specs.List.{list_all}
use Rattle.std.proofs.Common.{refl, sym, subst, arith, lit<}
use Rattle.std.proofs.lemmas.Bool.{and_parts}
use Rattle.std.proofs.lemmas.Option.{same_Some}
use Rattle.explorer_model.specs.declared.chess.Color.{Color}
use Rattle.explorer_model.specs.declared.chess.Color.TheVariants.{White, Black}
use Rattle.explorer_model.specs.declared.chess.Role.{Role}
use Rattle.explorer_model.specs.declared.chess.Role.TheVariants.{Pawn, Knight, Rook, King}
use Rattle.explorer_model.specs.declared.chess.Piece.{Piece}
use Rattle.explorer_model.specs.declared.chess.Rights.{Rights}
use Rattle.explorer_model.specs.Board.{piece_at, piece_of}
use Rattle.explorer_model.specs.Chess.{HasCrossed, all_rights, back_rank, is_king_of, is_pawn, is_pawn_at, IsPawn, start, start_squares}
use Rattle.explorer_model.specs.Fen.{FenReads, IsNamed, PlacesPieces, en_passant_named, fen_text, field, fields, has_clock, has_number, placement, rank_squares, rights_named, turn_named}
use Rattle.legal_moves.proofs.StartIsValid.{start_is_valid}
use Rattle.fen_uci.proofs.Positions.{first_1, first_2}
use Rattle.fen_uci.proofs.Rereading.{written_reads}

-- fields stand between spaces, of which there may be more than one
fields-stand-between-spaces : fields (codes " 8/8  w -") ≡ codes "8/8" ∷ codes "w" ∷ codes "-" ∷ []
fields-stand-between-spaces = refl

-- a digit stands for empty squares, a capital letter for a piece of White
rank-of-letters-and-digits : rank_squares (codes "R5pp") ≡ Some (piece_of White Rook ∷ replicate 5 None ++ piece_of Black Pawn ∷ piece_of Black Pawn ∷ [])
rank-of-letters-and-digits = refl

-- digits may stand side by side, but a rank has eight squares
digits-side-by-side : rank_squares (codes "44") ≡ Some (replicate 8 None)
digits-side-by-side = refl

rank-of-nine : rank_squares (codes "45") ≡ None
rank-of-nine = refl

-- there are eight ranks
seven-ranks : placement (codes "8/8/8/8/8/8/8") ≡ None
seven-ranks = refl

-- each right is named at most once
rights-of-both : rights_named (codes "kQ") ≡ Some (record { white_short = false; white_long = true; black_short = true; black_long = false })
rights-of-both = refl

right-twice : rights_named (codes "KK") ≡ None
right-twice = refl

-- the side to move is w or b
turn-by-letter : turn_named (codes "b") ≡ Some Black
turn-by-letter = refl

-- a pawn of the side that moved crosses rank 6 or rank 3
crossed-on-rank-three : en_passant_named Black (codes "e3") ≡ Some (Some 20)
crossed-on-rank-three = refl

crossed-on-rank-four : en_passant_named Black (codes "e4") ≡ None
crossed-on-rank-four = refl

-- both counts may be left out together, and have at most six digits
counts-are-left-out : has_clock (codes "8/8 w - -") ≡ true
counts-are-left-out = refl

one-count-alone : has_number (codes "8/8 w - - 0") ≡ false
one-count-alone = refl

seven-digits : has_clock (codes "8/8 w - - 1000000 1") ≡ false
seven-digits = refl

-- The first faulty field is told, and the others are not looked at.

-- one king of each side, and nothing else
abbrev two_kings : List (Option Piece)
two_kings = replicate 4 None ++ piece_of White King ∷ replicate 55 None ++ piece_of Black King ∷ replicate 3 None

abbrev has_no_pawn : List (Option Piece) → Bool
has_no_pawn squares = list_all (λ o. not (is_pawn_at o)) squares

no_pawn : (squares : List (Option Piece)) → has_no_pawn squares ≡ true → (s : ℕ) → ¬ IsPawn (piece_at squares s)
no_pawn [] none s pawn = pawn
no_pawn (None ∷ squares) none zero pawn = pawn
no_pawn (Some piece ∷ squares) none zero pawn =
    let other = (and_parts (not (is_pawn piece.role)) (has_no_pawn squares) none).0 in
    let ill : not (is_pawn Pawn) ≡ true = subst (λ (role : Role). not (is_pawn role) ≡ true) pawn other in cc
no_pawn (o ∷ squares) none (suc s) pawn = no_pawn squares (and_parts (not (is_pawn_at o)) (has_no_pawn squares) none).1 s pawn

placed-kings : PlacesPieces (codes "4k3/8/8/8/8/8/8/4K3 x z") two_kings
placed-kings = (refl, (refl, omega arith), (refl, omega arith), λ s on pawn. absurd (no_pawn two_kings refl s pawn))

-- a board without kings is no board, whatever stands behind it
no-kings : FenReads (codes "8/8/8/8/8/8/8/8 x z") (Err (record { field = 1 }))
no-kings = first_1 (codes "8/8/8/8/8/8/8/8 x z") (λ squares places.
    let same : replicate 64 None ≡ squares = same_Some (replicate 64 None) squares places.0 in
    let one : 0 ≡ 1 = subst (λ (xs : List (Option Piece)). count_by (is_king_of White) xs ≡ 1) (sym same) places.1.0 in
    absurd (omega (arith, one)))

-- the side to move is judged before the rights
turn-before-rights : FenReads (codes "4k3/8/8/8/8/8/8/4K3 x z") (Err (record { field = 2 }))
turn-before-rights = first_2 (codes "4k3/8/8/8/8/8/8/4K3 x z") two_kings placed-kings (λ turn gives. let none = gives.0 in cc)

-- the rights are judged where field 2 is right, whatever stands in the fields behind them
rights-of-no-side : rights_named (field 3 (codes "4k3/8/8/8/8/8/8/4K3 w z")) ≡ None
rights-of-no-side = refl

-- Positions as they are written, with the counts `0 1` whatever the game was (PGN 16.1.4).

no_rights : Rights
no_rights = record { white_short = false; white_long = false; black_short = false; black_long = false }

abbrev empty_ranks : ℕ → List (Option Piece)
empty_ranks ranks = replicate (8 * ranks) None

-- one piece among empty squares, on a rank from file a to file h
abbrev alone : ℕ → Option Piece → List (Option Piece)
alone file piece = replicate file None ++ piece ∷ replicate (7 - file) None

-- a rank of pawns but for one file
abbrev pawns_without : ℕ → Color → List (Option Piece)
pawns_without file color = replicate file (piece_of color Pawn) ++ None ∷ replicate (7 - file) (piece_of color Pawn)

start-is-written : fen_text start ≡ codes "rnbqkbnr/pppppppp/8/8/8/8/PPPPPPPP/RNBQKBNR w KQkq - 0 1"
start-is-written = refl

-- 1. e4: the square that the pawn crossed
after-e4-is-written :
    fen_text (record {
      squares = back_rank White ++ pawns_without 4 White ++ empty_ranks 1 ++ alone 4 (piece_of White Pawn) ++ empty_ranks 2 ++ replicate 8 (piece_of Black Pawn) ++ back_rank Black;
      turn = Black;
      rights = all_rights;
      en_passant = Some (record { index = 20; on_board = lit< tt });
    }) ≡ codes "rnbqkbnr/pppppppp/8/8/4P3/8/PPPP1PPP/RNBQKBNR b KQkq e3 0 1"
after-e4-is-written = refl

-- 1. e4 c5 2. Nf3: runs of empty squares between pieces
after-nf3-is-written :
    fen_text (record {
      squares =
          take 6 (back_rank White) ++ None ∷ piece_of White Rook ∷ pawns_without 4 White ++ alone 5 (piece_of White Knight) ++ alone 4 (piece_of White Pawn)
          ++ alone 2 (piece_of Black Pawn) ++ empty_ranks 1 ++ pawns_without 2 Black ++ back_rank Black;
      turn = Black;
      rights = all_rights;
      en_passant = None;
    }) ≡ codes "rnbqkbnr/pp1ppppp/8/2p5/4P3/5N2/PPPP1PPP/RNBQKB1R b KQkq - 0 1"
after-nf3-is-written = refl

-- no right is a dash
kings-are-written : fen_text (record { squares = two_kings; turn = White; rights = no_rights; en_passant = None }) ≡ codes "4k3/8/8/8/8/8/8/4K3 w - - 0 1"
unfolding no_rights
kings-are-written = refl

-- Texts that are read.

start-is-read : FenReads (codes "rnbqkbnr/pppppppp/8/8/8/8/PPPPPPPP/RNBQKBNR w KQkq - 0 1") (Ok start)
start-is-read = written_reads start start_is_valid

-- with the first four fields alone, and a square that no pawn has crossed, which is dropped
uncrossed-square-is-dropped : FenReads (codes "rnbqkbnr/pppppppp/8/8/8/8/PPPPPPPP/RNBQKBNR w KQkq e6") (Ok start)
uncrossed-square-is-dropped = (start-is-read.0, start-is-read.1, start-is-read.2, (Some 44, refl, λ s. (λ none. absurd none, dropped s)), refl, refl)
  where
    dropped : (s : ℕ) → IsNamed (Some 44) s × HasCrossed start_squares White s → ⊥
    dropped s (at, crossed) = let there = subst (λ (n : ℕ). HasCrossed start_squares White n) at crossed in there.3

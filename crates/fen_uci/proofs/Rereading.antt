-- A written position is read as the position.
use Rattle.std.proofs.Common.{◌≡◌, ℕ, zero, suc, ◌+◌, ◌-◌, ◌*◌, ◌<◌, ◌≤◌, ◌==◌, ◌&&◌, ◌||◌, Bool, true, false, not, List, [], ◌∷◌, ◌++◌, length, take, drop, replicate, slice_index_or, Option, Some, None, option_map, option_and_then, Ok, refl, sym, ap, ◌∙◌, append_assoc, arith, lit<, if◌then◌else◌, nat_le}
use Rattle.std.specs.List.{slice_split, list_all, All}
use Rattle.std.proofs.Math.Seq.{take-add}
use Rattle.std.proofs.lemmas.Bool.{and_parts, eq-eqb}
use Rattle.std.proofs.lemmas.Bool.Decides.{nat_tests}
use Rattle.std.proofs.lemmas.List.{append-nil, length-take-le, length-drop, take_all}
use Rattle.std.proofs.lemmas.List.Elements.{All-nil, All-cons, All-append, All-weaker}
use Rattle.std.proofs.lemmas.List.Splits.{slice_split_none, slice_split_at}
use Rattle.explorer_model.specs.declared.chess.Color.{Color}
use Rattle.explorer_model.specs.declared.chess.Color.TheVariants.{White, Black}
use Rattle.explorer_model.specs.declared.chess.Role.{Role}
use Rattle.explorer_model.specs.declared.chess.Role.TheVariants.{Pawn, Knight, Bishop, Rook, Queen, King}
use Rattle.explorer_model.specs.declared.chess.Piece.{Piece}
use Rattle.explorer_model.specs.declared.chess.Rights.{Rights}
use Rattle.explorer_model.specs.declared.chess.Position.{Position}
use Rattle.explorer_model.specs.declared.square.Square.{Square}
use Rattle.explorer_model.specs.Board.{piece_of}
use Rattle.explorer_model.specs.Chess.{HasCrossed, IsSquare, IsValid}
use Rattle.explorer_model.specs.Letters.{file_letter, rank_digit, square_named, square_text}
use Rattle.explorer_model.specs.Fen.{is_filled, fields, squares_named, run_named, rank_squares, ranks_squares, placement, turn_named, rights_named, en_passant_digit, en_passant_named, IsNamed, is_count, FenReads, piece_letter, empty_text, run_text, rank_text, ranks_text, turn_text, rights_text, en_passant_text, fen_text}
use Rattle.fen_uci.specs.Splits.{IsFreeOf}
use Rattle.fen_uci.specs.Ranks.{is_slash}
use Rattle.fen_uci.proofs.Splitting.{differs, fields_word}
use Rattle.explorer_model.proofs.LetterLemmas.{square_read}

-- Ranks.

digit_read : (run : ℕ) → run < 8 → squares_named (49 + run) ≡ Some (replicate (suc run) None)
digit_read run below =
    let digit : (nat_le 49 (49 + run) && nat_le (49 + run) 56) ≡ true = grind (arith, nat_tests) in
    let size : (49 + run) - 48 ≡ suc run = omega arith in
    rw digit (ap (λ (n : ℕ). Some (replicate n None)) size)

letter_read : (color : Color) (role : Role) → squares_named (piece_letter color role) ≡ Some (piece_of color role ∷ [])
letter_read White Pawn = refl
letter_read White Knight = refl
letter_read White Bishop = refl
letter_read White Rook = refl
letter_read White Queen = refl
letter_read White King = refl
letter_read Black Pawn = refl
letter_read Black Knight = refl
letter_read Black Bishop = refl
letter_read Black Rook = refl
letter_read Black Queen = refl
letter_read Black King = refl

byte_read : (b : ℕ) (bytes : List ℕ) (here more : List (Option Piece)) → squares_named b ≡ Some here → run_named bytes ≡ Some more
    → run_named (b ∷ bytes) ≡ Some (here ++ more)
byte_read b bytes here more e g = rw (e, g) refl

empty_read : (run : ℕ) (bytes : List ℕ) (more : List (Option Piece)) → run ≤ 8 → run_named bytes ≡ Some more
    → run_named (empty_text run ++ bytes) ≡ Some (replicate run None ++ more)
empty_read zero bytes more few e = e
empty_read (suc run) bytes more few e = byte_read (49 + run) bytes (replicate (suc run) None) more (digit_read run (omega (arith, few))) e

one_empty_more : (run : ℕ) (squares : List (Option Piece)) → replicate (suc run) None ++ squares ≡ replicate run None ++ (None ∷ squares)
one_empty_more zero squares = refl
one_empty_more (suc run) squares = ap (λ (xs : List (Option Piece)). None ∷ xs) (one_empty_more run squares)

run_read : (run : ℕ) (squares : List (Option Piece)) → run + length squares ≤ 8 → run_named (run_text run squares) ≡ Some (replicate run None ++ squares)
run_read run [] few =
    ap run_named (sym (append-nil (empty_text run))) ∙ empty_read run [] [] (omega (arith, few)) refl
run_read run (None ∷ squares) few =
    run_read (suc run) squares (omega (arith, few)) ∙ ap (λ (xs : List (Option Piece)). Some xs) (one_empty_more run squares)
run_read run (Some piece ∷ squares) few =
    empty_read run (piece_letter piece.color piece.role ∷ run_text 0 squares) (Some piece ∷ squares) (omega (arith, few))
    (byte_read (piece_letter piece.color piece.role) (run_text 0 squares) (Some piece ∷ []) squares (letter_read piece.color piece.role) (run_read 0 squares (omega (arith, few))))

of_eight : (o : Option (List (Option Piece))) (squares : List (Option Piece)) → o ≡ Some squares → length squares ≡ 8
    → option_and_then (λ xs. if length xs == 8 then Some xs else None) o ≡ Some squares
of_eight o squares e size =
    let eight : (length squares == 8) ≡ true = grind (arith, nat_tests) in
    ap (λ (p : Option (List (Option Piece))). option_and_then (λ xs. if length xs == 8 then Some xs else None) p) e
    ∙ ap (λ (fits : Bool). if fits then Some squares else None) eight

rank_read : (squares : List (Option Piece)) (rank : ℕ) → 8 * rank + 8 ≤ length squares → rank_squares (rank_text squares rank) ≡ Some (take 8 (drop (8 * rank) squares))
rank_read squares rank within =
    let size : length (take 8 (drop (8 * rank) squares)) ≡ 8 = length-take-le 8 (drop (8 * rank) squares) (omega (arith, within, length-drop (8 * rank) squares)) in
    of_eight (run_named (rank_text squares rank)) (take 8 (drop (8 * rank) squares)) (run_read 0 (take 8 (drop (8 * rank) squares)) (omega (arith, size))) size

-- Neither a space nor a slash is written of a rank.

letter_large : (color : Color) (role : Role) → 48 < piece_letter color role
letter_large White Pawn = lit< tt
letter_large White Knight = lit< tt
letter_large White Bishop = lit< tt
letter_large White Rook = lit< tt
letter_large White Queen = lit< tt
letter_large White King = lit< tt
letter_large Black Pawn = lit< tt
letter_large Black Knight = lit< tt
letter_large Black Bishop = lit< tt
letter_large Black Rook = lit< tt
letter_large Black Queen = lit< tt
letter_large Black King = lit< tt

abbrev AreLarge : List ℕ → Type 0
AreLarge text = All (λ b. 48 < b) text

empty_large : (run : ℕ) → AreLarge (empty_text run)
empty_large zero = All-nil (λ b. 48 < b)
empty_large (suc run) = All-cons (λ b. 48 < b) (49 + run) [] (omega arith) (All-nil (λ b. 48 < b))

run_large : (run : ℕ) (squares : List (Option Piece)) → AreLarge (run_text run squares)
run_large run [] = empty_large run
run_large run (None ∷ squares) = run_large (suc run) squares
run_large run (Some piece ∷ squares) =
    All-append (λ b. 48 < b) (empty_text run) (piece_letter piece.color piece.role ∷ run_text 0 squares) (empty_large run)
    (All-cons (λ b. 48 < b) (piece_letter piece.color piece.role) (run_text 0 squares) (letter_large piece.color piece.role) (run_large 0 squares))

large_free : (byte : ℕ) (text : List ℕ) → byte ≤ 48 → AreLarge text → IsFreeOf byte text
large_free byte text small large =
    All-weaker (λ b. 48 < b) (λ b. (b == byte) ≡ false) (λ b more. differs b byte (λ e. absurd (omega (arith, e, more, small)))) text large

rank_free : (byte : ℕ) (squares : List (Option Piece)) (rank : ℕ) → byte ≤ 48 → IsFreeOf byte (rank_text squares rank)
rank_free byte squares rank small = large_free byte (rank_text squares rank) small (run_large 0 (take 8 (drop (8 * rank) squares)))

ranks_free : (squares : List (Option Piece)) (rank : ℕ) → IsFreeOf 32 (ranks_text squares rank)
ranks_free squares zero = rank_free 32 squares 0 (omega arith)
ranks_free squares (suc rank) =
    All-append (λ b. (b == 32) ≡ false) (rank_text squares (suc rank)) (47 ∷ ranks_text squares rank) (rank_free 32 squares (suc rank) (omega arith))
    (All-cons (λ b. (b == 32) ≡ false) 47 (ranks_text squares rank) refl (ranks_free squares rank))

-- Field 1.

ranks_split : (squares : List (Option Piece)) (rank : ℕ)
    → slice_split is_slash (ranks_text squares (suc rank)) ≡ rank_text squares (suc rank) ∷ slice_split is_slash (ranks_text squares rank)
ranks_split squares rank = slice_split_at is_slash (rank_text squares (suc rank)) 47 (ranks_text squares rank) (rank_free 47 squares (suc rank) (omega arith)) refl

last_split : (squares : List (Option Piece)) → slice_split is_slash (ranks_text squares 0) ≡ rank_text squares 0 ∷ []
last_split squares = slice_split_none is_slash (rank_text squares 0) (rank_free 47 squares 0 (omega arith))

ranks_length : (squares : List (Option Piece)) (rank : ℕ) → length (slice_split is_slash (ranks_text squares rank)) ≡ suc rank
ranks_length squares zero = ap (λ (parts : List (List ℕ)). length parts) (last_split squares)
ranks_length squares (suc rank) =
    ap (λ (parts : List (List ℕ)). length parts) (ranks_split squares rank) ∙ ap (λ (n : ℕ). suc n) (ranks_length squares rank)

above_read : (rank : List ℕ) (ranks : List (List ℕ)) (here below : List (Option Piece)) → rank_squares rank ≡ Some here → ranks_squares ranks ≡ Some below
    → ranks_squares (rank ∷ ranks) ≡ Some (below ++ here)
above_read rank ranks here below e g = rw (e, g) refl

ranks_read : (squares : List (Option Piece)) (rank : ℕ) → 8 * rank + 8 ≤ length squares
    → ranks_squares (slice_split is_slash (ranks_text squares rank)) ≡ Some (take (8 * rank + 8) squares)
ranks_read squares zero within =
    ap ranks_squares (last_split squares) ∙ above_read (rank_text squares 0) [] (take 8 squares) [] (rank_read squares 0 within) refl
ranks_read squares (suc rank) within =
    let place : 8 * rank + 8 ≡ 8 * suc rank = omega arith in
    let below = ranks_read squares rank (omega (arith, within)) ∙ ap (λ (n : ℕ). Some (take n squares)) place in
    ap ranks_squares (ranks_split squares rank)
    ∙ above_read (rank_text squares (suc rank)) (slice_split is_slash (ranks_text squares rank)) (take 8 (drop (8 * suc rank) squares)) (take (8 * suc rank) squares)
    (rank_read squares (suc rank) within) below
    ∙ ap (λ (xs : List (Option Piece)). Some xs) (sym (take-add (8 * suc rank) 8 squares))

placement_read : (squares : List (Option Piece)) → length squares ≡ 64 → placement (ranks_text squares 7) ≡ Some squares
placement_read squares size =
    let eight : (length (slice_split is_slash (ranks_text squares 7)) == 8) ≡ true = ap (λ (n : ℕ). n == 8) (ranks_length squares 7) in
    ap (λ (fits : Bool). if fits then ranks_squares (slice_split is_slash (ranks_text squares 7)) else None) eight
    ∙ ranks_read squares 7 (omega (arith, size))
    ∙ ap (λ (xs : List (Option Piece)). Some xs) (take_all 64 squares (omega (arith, size)))

filled_around : (xs ys : List ℕ) → is_filled (xs ++ 47 ∷ ys) ≡ true
filled_around [] ys = refl
filled_around (x ∷ xs) ys = refl

-- Fields 2 to 4.

record IsWord (text : List ℕ) : Type 0 where
  free : IsFreeOf 32 text
  filled : is_filled text ≡ true

free_test : (text : List ℕ) → list_all (λ b. not (b == 32)) text ≡ true → IsFreeOf 32 text
free_test [] test = All-nil (λ b. (b == 32) ≡ false)
free_test (b ∷ text) test =
    let (first, others) = and_parts (not (b == 32)) (list_all (λ c. not (c == 32)) text) test in
    All-cons (λ c. (c == 32) ≡ false) b text (off (b == 32) first) (free_test text others)
  where
    off : (x : Bool) → not x ≡ true → x ≡ false
    off true e = cc
    off false e = refl

-- by two tests that compute
a_word : (text : List ℕ) → list_all (λ b. not (b == 32)) text ≡ true → is_filled text ≡ true → IsWord text
a_word text free filled = record { free = free_test text free; filled = filled }

turn_word : (turn : Color) → IsWord (turn_text turn)
turn_word White = a_word _ refl refl
turn_word Black = a_word _ refl refl

turn_read : (turn : Color) → turn_named (turn_text turn) ≡ Some turn
turn_read White = refl
turn_read Black = refl

abbrev rights_of : Bool → Bool → Bool → Bool → Rights
rights_of a b c d = record { white_short = a; white_long = b; black_short = c; black_long = d }

record RightsRead (rights : Rights) : Type 0 where
  word : IsWord (rights_text rights)
  read : rights_named (rights_text rights) ≡ Some rights

rights_read_all : (a b c d : Bool) → RightsRead (rights_of a b c d)
rights_read_all true true true true = record { word = a_word _ refl refl; read = refl }
rights_read_all true true true false = record { word = a_word _ refl refl; read = refl }
rights_read_all true true false true = record { word = a_word _ refl refl; read = refl }
rights_read_all true true false false = record { word = a_word _ refl refl; read = refl }
rights_read_all true false true true = record { word = a_word _ refl refl; read = refl }
rights_read_all true false true false = record { word = a_word _ refl refl; read = refl }
rights_read_all true false false true = record { word = a_word _ refl refl; read = refl }
rights_read_all true false false false = record { word = a_word _ refl refl; read = refl }
rights_read_all false true true true = record { word = a_word _ refl refl; read = refl }
rights_read_all false true true false = record { word = a_word _ refl refl; read = refl }
rights_read_all false true false true = record { word = a_word _ refl refl; read = refl }
rights_read_all false true false false = record { word = a_word _ refl refl; read = refl }
rights_read_all false false true true = record { word = a_word _ refl refl; read = refl }
rights_read_all false false true false = record { word = a_word _ refl refl; read = refl }
rights_read_all false false false true = record { word = a_word _ refl refl; read = refl }
rights_read_all false false false false = record { word = a_word _ refl refl; read = refl }

rights_read : (rights : Rights) → RightsRead rights
rights_read rights = rights_read_all rights.white_short rights.white_long rights.black_short rights.black_long

square_word : (s : ℕ) → IsWord (square_text s)
square_word s = record {
  free =
      All-cons (λ b. (b == 32) ≡ false) (file_letter s) (rank_digit s ∷ []) (differs (file_letter s) 32 (λ e. absurd (omega (arith, e))))
      (All-cons (λ b. (b == 32) ≡ false) (rank_digit s) [] (differs (rank_digit s) 32 (λ e. absurd (omega (arith, e)))) (All-nil (λ b. (b == 32) ≡ false)));
  filled = refl;
}

en_passant_word : (en_passant : Option Square) → IsWord (en_passant_text en_passant)
en_passant_word None = a_word _ refl refl
en_passant_word (Some square) = square_word square.index

-- the number of the en passant square
abbrev index_of : Option Square → Option ℕ
index_of None = None
index_of (Some square) = Some square.index

crossed_rank : (squares : List (Option Piece)) (turn : Color) (s : ℕ) → HasCrossed squares turn s → rank_digit s ≡ en_passant_digit turn
crossed_rank squares White s crossed = omega (arith, crossed.0)
crossed_rank squares Black s crossed = omega (arith, crossed.0)

en_passant_read : (squares : List (Option Piece)) (turn : Color) (en_passant : Option Square) → ((s : ℕ) → IsSquare en_passant s → HasCrossed squares turn s)
    → en_passant_named turn (en_passant_text en_passant) ≡ Some (index_of en_passant)
en_passant_read squares turn None stands = refl
en_passant_read squares turn (Some square) stands =
    let same : (rank_digit square.index == en_passant_digit turn) ≡ true = eq-eqb _ _ (crossed_rank squares turn square.index (stands square.index refl)) in
    ap (λ (fits : Bool). if fits then option_map (λ s. Some s) (square_named (file_letter square.index) (rank_digit square.index)) else None) same
    ∙ ap (λ (o : Option ℕ). option_map (λ s. Some s) o) (square_read square.index square.on_board)

named_is : (en_passant : Option Square) (s : ℕ) → IsSquare en_passant s → IsNamed (index_of en_passant) s
named_is None s ill = ill
named_is (Some square) s e = sym e

is_named : (en_passant : Option Square) (s : ℕ) → IsNamed (index_of en_passant) s → IsSquare en_passant s
is_named None s ill = ill
is_named (Some square) s e = sym e

-- The six fields.

word_off : (word rest : List ℕ) → IsWord word → fields (word ++ 32 ∷ rest) ≡ word ∷ fields rest
word_off [] rest is = let none = is.filled in cc
word_off (b ∷ word) rest is = fields_word b word (32 ∷ rest) is.free refl

to_the_right : (a b c d e : List ℕ) → (((a ++ 32 ∷ b) ++ 32 ∷ c) ++ 32 ∷ d) ++ e ≡ a ++ 32 ∷ (b ++ 32 ∷ (c ++ 32 ∷ (d ++ e)))
to_the_right a b c d e = simp append_assoc

six_fields : (p : Position) → IsWord (ranks_text p.squares 7)
    → fields (fen_text p) ≡ ranks_text p.squares 7 ∷ turn_text p.turn ∷ rights_text p.rights ∷ en_passant_text p.en_passant ∷ (48 ∷ []) ∷ (49 ∷ []) ∷ []
six_fields p pieces =
    let turn = turn_text p.turn in
    let rights = rights_text p.rights in
    let en_passant = en_passant_text p.en_passant in
    let end : List ℕ = 48 ∷ 32 ∷ 49 ∷ [] in
    ap fields (to_the_right (ranks_text p.squares 7) turn rights en_passant (32 ∷ end))
    ∙ word_off (ranks_text p.squares 7) (turn ++ 32 ∷ (rights ++ 32 ∷ (en_passant ++ 32 ∷ end))) pieces
    ∙ ap (λ (rest : List (List ℕ)). ranks_text p.squares 7 ∷ rest) (word_off turn (rights ++ 32 ∷ (en_passant ++ 32 ∷ end)) (turn_word p.turn)
    ∙ ap (λ (rest : List (List ℕ)). turn ∷ rest) (word_off rights (en_passant ++ 32 ∷ end) (rights_read p.rights).word
    ∙ ap (λ (rest : List (List ℕ)). rights ∷ rest) (word_off en_passant end (en_passant_word p.en_passant))))

pub written_reads : (p : Position) → IsValid p → FenReads (fen_text p) (Ok p)
written_reads p valid =
    let pieces : IsWord (ranks_text p.squares 7) = record { free = ranks_free p.squares 7; filled = filled_around (rank_text p.squares 7) (ranks_text p.squares 6) } in
    let six = six_fields p pieces in
    let at = λ (n : ℕ). ap (λ (parts : List (List ℕ)). slice_index_or parts n []) six in (
      (ap placement (at 0) ∙ placement_read p.squares valid.board, valid.white, valid.black, valid.pawns),
      (ap turn_named (at 1) ∙ turn_read p.turn, valid.not_in_check),
      (
        p.rights,
        ap rights_named (at 2) ∙ (rights_read p.rights).read,
        λ color side. (λ has. let (king, rook) = valid.rights color side has in (has, king, rook), λ kept. kept.0),
      ),
      (
        index_of p.en_passant,
        ap (en_passant_named p.turn) (at 3) ∙ en_passant_read p.squares p.turn p.en_passant valid.en_passant,
        λ s. (λ there. (named_is p.en_passant s there, valid.en_passant s there), λ named. is_named p.en_passant s named.0),
      ),
      ap (λ (parts : List (List ℕ)). (length parts == 4) || is_count (slice_index_or parts 4 [])) six,
      ap (λ (parts : List (List ℕ)). (length parts == 4) || ((length parts == 6) && is_count (slice_index_or parts 5 []))) six,
    )

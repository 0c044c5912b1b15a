-- Statement: Forsyth-Edwards notation (PGN 16.1), as the explorer reads and writes it: six fields,
-- or the first four alone.
use Rattle.std.specs.Prelude.{◌≡◌, ℕ, zero, suc, ◌+◌, ◌-◌, ◌*◌, ◌<◌, ◌≤◌, ◌==◌, ◌&&◌, ◌||◌, ◌↔◌, Bool, true, false, IsTrue, nat_le, nat_lt, List, [], ◌∷◌, ◌++◌, length, replicate, filter, count_by, take, drop, slice_index_or, codes, Option, Some, None, option_map, option_and_then, Result, Ok, Err, if◌then◌else◌}
use Rattle.std.specs.List.{slice_split, list_all}
use Rattle.explorer_model.specs.declared.chess.Color.{Color}
use Rattle.explorer_model.specs.declared.chess.Color.TheVariants.{White, Black}
use Rattle.explorer_model.specs.declared.chess.Role.{Role}
use Rattle.explorer_model.specs.declared.chess.Role.TheVariants.{Pawn, King, Rook}
use Rattle.explorer_model.specs.declared.chess.Side.{Side}
use Rattle.explorer_model.specs.declared.chess.Piece.{Piece}
use Rattle.explorer_model.specs.declared.chess.Rights.{Rights}
use Rattle.explorer_model.specs.declared.chess.Position.{Position}
use Rattle.explorer_model.specs.declared.square.Square.{Square}
use Rattle.explorer_model.specs.declared.notation.FenFault.{FenFault}
use Rattle.explorer_model.specs.Board.{piece_at, opponent, piece_of, IsPiece, InCheck}
use Rattle.explorer_model.specs.Chess.{king_home, rook_home, has_right, HasPieces, HasPawnsInside, HasCrossed, IsSquare}
use Rattle.explorer_model.specs.Letters.{byte, capital, letter_of, role_of, lettered, square_named, square_text, small_letter}

abbrev pub is_filled : List ℕ → Bool
is_filled [] = false
is_filled (b ∷ bytes) = true

-- what stands between the spaces
abbrev pub fields : List ℕ → List (List ℕ)
fields text = filter is_filled (slice_split (λ b. b == byte " ") text)

-- the field of this number, counted from 1; nothing where it is missing, which no field's rule
-- allows
abbrev pub field : ℕ → List ℕ → List ℕ
field number text = slice_index_or (fields text) (number - 1) []

-- Field 1, where the pieces stand (PGN 16.1.3.1).

abbrev pub all_roles : List Role
all_roles = Pawn ∷ lettered

-- White's pieces are capital letters, Black's small ones
abbrev pub piece_named : ℕ → Option (Option Piece)
piece_named b = elim (role_of all_roles b) [
  | Some role ↦ Some (piece_of White role)
  | None ↦ option_map (piece_of Black) (role_of all_roles (capital b))
]

-- the squares for which one letter or digit stands
abbrev pub squares_named : ℕ → Option (List (Option Piece))
squares_named b =
    if nat_le (byte "1") b && nat_le b (byte "8") then Some (replicate (b - byte "0") None)
    else option_map (λ o. o ∷ []) (piece_named b)

abbrev pub run_named : List ℕ → Option (List (Option Piece))
run_named [] = Some []
run_named (b ∷ bytes) =
    option_and_then (λ here. option_map (λ more. here ++ more) (run_named bytes)) (squares_named b)

-- a rank from file a to file h
abbrev pub rank_squares : List ℕ → Option (List (Option Piece))
rank_squares text =
    option_and_then (λ squares. if length squares == 8 then Some squares else None) (run_named text)

-- ranks from the highest to the lowest
abbrev pub ranks_squares : List (List ℕ) → Option (List (Option Piece))
ranks_squares [] = Some []
ranks_squares (rank ∷ ranks) =
    option_and_then (λ here. option_map (λ below. below ++ here) (ranks_squares ranks))
    (rank_squares rank)

abbrev pub placement : List ℕ → Option (List (Option Piece))
placement text =
    let ranks = slice_split (λ b. b == byte "/") text in
    if length ranks == 8 then ranks_squares ranks else None

abbrev pub PlacesPieces : List ℕ → List (Option Piece) → Type 0
PlacesPieces text squares =
    (placement (field 1 text) ≡ Some squares)
    × HasPieces squares White × HasPieces squares Black × HasPawnsInside squares

-- Field 2, the side to move (PGN 16.1.3.2): w or b.

abbrev pub turn_named : List ℕ → Option Color
turn_named (b ∷ []) =
    if b == byte "w" then Some White else if b == byte "b" then Some Black else None
turn_named _ = None

abbrev pub GivesTurn : List ℕ → List (Option Piece) → Color → Type 0
GivesTurn text squares turn =
    (turn_named (field 2 text) ≡ Some turn) × (¬ InCheck squares (opponent turn))

-- Field 3, the rights to castle (PGN 16.1.3.3): `-`, or some of K Q k q.

abbrev pub count_of : ℕ → List ℕ → ℕ
count_of counted text = count_by (λ b. b == counted) text

abbrev pub is_right : ℕ → Bool
is_right b = (b == byte "K") || (b == byte "Q") || (b == byte "k") || (b == byte "q")

abbrev pub are_rights : List ℕ → Bool
are_rights text = is_filled text && list_all is_right text
    && nat_le (count_of (byte "K") text) 1 && nat_le (count_of (byte "Q") text) 1
    && nat_le (count_of (byte "k") text) 1 && nat_le (count_of (byte "q") text) 1

abbrev pub is_dash : List ℕ → Bool
is_dash (b ∷ []) = b == byte "-"
is_dash _ = false

abbrev pub rights_named : List ℕ → Option Rights
rights_named text =
    if is_dash text || are_rights text
    then Some (record {
      white_short = nat_lt 0 (count_of (byte "K") text);
      white_long = nat_lt 0 (count_of (byte "Q") text);
      black_short = nat_lt 0 (count_of (byte "k") text);
      black_long = nat_lt 0 (count_of (byte "q") text);
    })
    else None

-- a right is kept where its king and its rook are on their first squares
abbrev pub KeepsRights : List (Option Piece) → Rights → Rights → Type 0
KeepsRights squares named kept = (color : Color) (side : Side) →
    IsTrue (has_right kept color side)
    ↔ (IsTrue (has_right named color side)
    × IsPiece color King (piece_at squares (king_home color))
    × IsPiece color Rook (piece_at squares (rook_home color side)))

abbrev pub GivesRights : List ℕ → List (Option Piece) → Rights → Type 0
GivesRights text squares rights =
    (named : Rights) × (rights_named (field 3 text) ≡ Some named) × KeepsRights squares named rights

-- Field 4, the en passant square (PGN 16.1.3.4): `-`, or a square that a pawn of the other side may
-- have crossed.

-- the digit of rank 6 or of rank 3
abbrev pub en_passant_digit : Color → ℕ
en_passant_digit White = byte "6"
en_passant_digit Black = byte "3"

abbrev pub en_passant_named : Color → List ℕ → Option (Option ℕ)
en_passant_named turn (b ∷ []) = if b == byte "-" then Some None else None
en_passant_named turn (file ∷ rank ∷ []) =
    if rank == en_passant_digit turn then option_map (λ s. Some s) (square_named file rank)
    else None
en_passant_named turn _ = None

abbrev pub IsNamed : Option ℕ → ℕ → Type 0
IsNamed None s = ⊥
IsNamed (Some named) s = s ≡ named

-- the square is kept where a pawn has crossed it
abbrev pub GivesEnPassant : List ℕ → List (Option Piece) → Color → Option Square → Type 0
GivesEnPassant text squares turn en_passant =
    (named : Option ℕ) × (en_passant_named turn (field 4 text) ≡ Some named)
    × ((s : ℕ) → IsSquare en_passant s ↔ (IsNamed named s × HasCrossed squares turn s))

-- Fields 5 and 6, the halfmove clock and the number of the move (PGN 16.1.3.5, 16.1.3.6), whose
-- values are not used.

abbrev pub is_digit : ℕ → Bool
is_digit b = nat_le (byte "0") b && nat_le b (byte "9")

abbrev pub is_count : List ℕ → Bool
is_count text = nat_le 1 (length text) && nat_le (length text) 6 && list_all is_digit text

-- a text of four fields has neither
abbrev pub has_clock : List ℕ → Bool
has_clock text = (length (fields text) == 4) || is_count (field 5 text)

abbrev pub has_number : List ℕ → Bool
has_number text =
    (length (fields text) == 4) || ((length (fields text) == 6) && is_count (field 6 text))

-- What a text says.

-- each field keeps its rule
abbrev pub GivesPosition : List ℕ → Position → Type 0
GivesPosition text p =
    PlacesPieces text p.squares
    × GivesTurn text p.squares p.turn
    × GivesRights text p.squares p.rights
    × GivesEnPassant text p.squares p.turn p.en_passant
    × IsTrue (has_clock text)
    × IsTrue (has_number text)

-- the position keeps the rules of the fields up to this number
abbrev pub KeepsUpTo : ℕ → List ℕ → Position → Type 0
KeepsUpTo number text p =
    (1 ≤ number → PlacesPieces text p.squares)
    × (2 ≤ number → GivesTurn text p.squares p.turn)
    × (3 ≤ number → GivesRights text p.squares p.rights)
    × (4 ≤ number → GivesEnPassant text p.squares p.turn p.en_passant)
    × (5 ≤ number → IsTrue (has_clock text))
    × (6 ≤ number → IsTrue (has_number text))

-- the first faulty field is the least number at which no position is left
pub record IsFirstFault (number : ℕ) (text : List ℕ) : Type 0 where
  pub left : (before : ℕ) → before < number → (p : Position) × KeepsUpTo before text p
  pub none : (p : Position) → ¬ KeepsUpTo number text p

-- the text is read as this position, or refused for its first faulty field
abbrev pub FenReads : List ℕ → Result Position FenFault → Type 0
FenReads text (Ok p) = GivesPosition text p
FenReads text (Err fault) = IsFirstFault fault.field text

-- The written form.

abbrev pub piece_letter : Color → Role → ℕ
piece_letter White role = letter_of role
piece_letter Black role = small_letter role

-- a run of empty squares is one digit
abbrev pub empty_text : ℕ → List ℕ
empty_text zero = []
empty_text (suc run) = (byte "1" + run) ∷ []

-- the squares from here on, after a run of empty ones
abbrev pub run_text : ℕ → List (Option Piece) → List ℕ
run_text run [] = empty_text run
run_text run (None ∷ squares) = run_text (suc run) squares
run_text run (Some piece ∷ squares) =
    empty_text run ++ piece_letter piece.color piece.role ∷ run_text 0 squares

abbrev pub rank_text : List (Option Piece) → ℕ → List ℕ
rank_text squares rank = run_text 0 (take 8 (drop (8 * rank) squares))

-- this rank and those below it
abbrev pub ranks_text : List (Option Piece) → ℕ → List ℕ
ranks_text squares zero = rank_text squares 0
ranks_text squares (suc rank) = rank_text squares (suc rank) ++ byte "/" ∷ ranks_text squares rank

abbrev pub turn_text : Color → List ℕ
turn_text White = codes "w"
turn_text Black = codes "b"

abbrev pub right_text : Bool → ℕ → List ℕ
right_text true letter = letter ∷ []
right_text false letter = []

abbrev pub or_dash : List ℕ → List ℕ
or_dash [] = codes "-"
or_dash (b ∷ bytes) = b ∷ bytes

abbrev pub rights_text : Rights → List ℕ
rights_text rights = or_dash (
    right_text rights.white_short (byte "K") ++ right_text rights.white_long (byte "Q")
    ++ right_text rights.black_short (byte "k") ++ right_text rights.black_long (byte "q")
    )

abbrev pub en_passant_text : Option Square → List ℕ
en_passant_text None = codes "-"
en_passant_text (Some square) = square_text square.index

abbrev pub fen_text : Position → List ℕ
fen_text p =
    ranks_text p.squares 7 ++ byte " " ∷ turn_text p.turn ++ byte " " ∷ rights_text p.rights
    ++ byte " " ∷ en_passant_text p.en_passant ++ codes " 0 1"

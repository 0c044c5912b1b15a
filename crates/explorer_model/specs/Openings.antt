-- Statement: names of openings: the file that tells them, and what an answer names by it.
use Rattle.std.specs.Prelude.{◌≡◌, ◌⊎◌, ℕ, ◌+◌, ◌==◌, ◌&&◌, ◌||◌, Bool, true, false, not, nat_le, MatchBool, List, [], ◌∷◌, length, drop, map, filter, bytes_eq, codes, if◌then◌else◌, Option, Some, None, option_map, Result, Ok, Err, ok_or}
use Rattle.std.specs.Char.{is_ascii_digit}
use Rattle.std.specs.List.{AllZip, prefix_len, slice_split}
use Rattle.std.specs.Option.{option_or}
use Rattle.std.specs.Result.{result_map_both}
use Rattle.std.specs.Str.{byte, is_utf8}
use Rattle.explorer_model.specs.declared.chess.Move.{Move}
use Rattle.explorer_model.specs.declared.chess.Position.{Position}
use Rattle.explorer_model.specs.declared.fault.SanFault.{SanFault}
use Rattle.explorer_model.specs.declared.query.Query.{Query}
use Rattle.explorer_model.specs.Chess.{start, after, Same}
use Rattle.explorer_model.specs.San.{SanReads}
use Rattle.explorer_model.specs.declared.opening.Opening.{Opening}
use Rattle.explorer_model.specs.declared.opening.Naming.{Naming}
use Rattle.explorer_model.specs.declared.opening.BookCause.{BookCause}
use Rattle.explorer_model.specs.declared.opening.BookCause.TheVariants.{NotThree, NotUtf8, TooLong, BadMove}
use Rattle.explorer_model.specs.declared.opening.BookFault.{BookFault}

-- ---- the lines of the file

-- a line ends with byte 10
abbrev pub ends_line : ℕ → Bool
ends_line b = b == 10

abbrev pub is_tab : ℕ → Bool
is_tab b = b == 9

abbrev pub is_space : ℕ → Bool
is_space b = b == byte " "

abbrev pub is_period : ℕ → Bool
is_period b = b == byte "."

abbrev pub is_empty : List ℕ → Bool
is_empty [] = true
is_empty (b ∷ bytes) = false

-- without a byte 13 at its end
abbrev pub without_return : List ℕ → List ℕ
without_return [] = []
without_return (b ∷ []) = if b == 13 then [] else b ∷ []
without_return (b ∷ c ∷ bytes) = b ∷ without_return (c ∷ bytes)

-- the pieces between line ends as lines: all but the last ended, and may have a byte 13 before that
abbrev pub ended_lines : List (List ℕ) → List (List ℕ)
ended_lines [] = []
ended_lines (last ∷ []) = last ∷ []
ended_lines (piece ∷ next ∷ pieces) = without_return piece ∷ ended_lines (next ∷ pieces)

unfoldable pub lines_of : List ℕ → List (List ℕ)
lines_of text = ended_lines (slice_split ends_line text)

-- what the first line may be
abbrev pub header : List ℕ
header = codes "eco\tname\tpgn"

-- empty lines are passed over, and so is a header; lines count from 1
unfoldable pub is_passed : ℕ → List ℕ → Bool
is_passed number line = is_empty line || (number == 1 && bytes_eq line header)

-- ---- the moves of a line

-- a word without the digits and periods that it begins with, where it has both
unfoldable pub without_number : List ℕ → List ℕ
without_number word =
    let rest = drop (prefix_len is_ascii_digit word) word in
    if nat_le 1 (prefix_len is_ascii_digit word) && nat_le 1 (prefix_len is_period rest)
    then drop (prefix_len is_period rest) rest else word

unfoldable pub words_of : List ℕ → List (List ℕ)
words_of text = filter (λ word. not (is_empty word)) (map without_number (slice_split is_space text))

-- the words are moves from the position, which lead here; to nothing where one is no move
abbrev pub Leads : Position → List (List ℕ) → Option Position → Type 0
Leads p [] end = end ≡ Some p
Leads p (word ∷ words) end =
    ((m : Move) × SanReads p word (Ok m) × Leads (after p m) words end)
    ⊎ ((fault : SanFault) × SanReads p word (Err fault) × (end ≡ None))

-- ---- a line

-- a position that has a name
pub record NamedPosition : Type 0 where
  pub position : Position
  pub opening : Opening

-- what stands between the tabs of a line
pub record Columns : Type 0 where
  pub eco : List ℕ
  pub name : List ℕ
  pub moves : List ℕ

-- the three columns between two tabs
abbrev pub three_columns : List (List ℕ) → Option Columns
three_columns (eco ∷ name ∷ moves ∷ []) = Some (record { eco = eco; name = name; moves = moves })
three_columns _ = None

-- the most moves of a line
abbrev pub move_limit : ℕ
move_limit = 64

abbrev pub named_by : Columns → Option Position → Result NamedPosition BookCause
named_by columns end = ok_or
    (option_map (λ p. record { position = p; opening = record { eco = columns.eco; name = columns.name } }) end)
    BadMove

abbrev pub ColumnsRead : Option Columns → Result NamedPosition BookCause → Type 0
ColumnsRead None reading = reading ≡ Err NotThree
ColumnsRead (Some columns) reading =
    MatchBool (is_utf8 columns.eco && is_utf8 columns.name)
    (MatchBool (nat_le (length (words_of columns.moves)) move_limit)
    ((end : Option Position) × Leads start (words_of columns.moves) end
    × (reading ≡ named_by columns end))
    (reading ≡ Err TooLong))
    (reading ≡ Err NotUtf8)

-- the line names a position, or has this fault
abbrev pub BookLineReads : List ℕ → Result NamedPosition BookCause → Type 0
BookLineReads line reading = ColumnsRead (three_columns (slice_split is_tab line)) reading

-- ---- the book

abbrev pub onto_book : NamedPosition → Result (List NamedPosition) BookFault → Result (List NamedPosition) BookFault
onto_book named rest = result_map_both (λ lines. named ∷ lines) (λ fault. fault) rest

-- the lines, of which the first has this number
abbrev pub LinesRead : ℕ → List (List ℕ) → Result (List NamedPosition) BookFault → Type 0
LinesRead number [] book = book ≡ Ok []
LinesRead number (line ∷ lines) book =
    MatchBool (is_passed number line)
    (LinesRead (number + 1) lines book)
    (((named : NamedPosition) × (rest : Result (List NamedPosition) BookFault)
    × BookLineReads line (Ok named) × LinesRead (number + 1) lines rest × (book ≡ onto_book named rest))
    ⊎ ((cause : BookCause) × BookLineReads line (Err cause)
    × (book ≡ Err (record { line = number; cause = cause }))))

-- the positions that the text names, in the order of its lines, or its first faulty line
abbrev pub BookReads : List ℕ → Result (List NamedPosition) BookFault → Type 0
BookReads text book = LinesRead 1 (lines_of text) book

-- ---- names

-- the opening of the first line whose position is the same
abbrev pub OpeningOf : List NamedPosition → Position → Option Opening → Type 0
OpeningOf [] p opening = opening ≡ None
OpeningOf (named ∷ book) p opening =
    (Same named.position p × (opening ≡ Some named.opening))
    ⊎ ((¬ Same named.position p) × OpeningOf book p opening)

-- the position and those that the moves lead to
abbrev pub positions_on : Position → List Move → List Position
positions_on p [] = p ∷ []
positions_on p (m ∷ moves) = p ∷ positions_on (after p m) moves

-- the opening of the last of the positions that has one
abbrev pub LastOpening : List NamedPosition → List Position → Option Opening → Type 0
LastOpening book [] opening = opening ≡ None
LastOpening book (p ∷ positions) opening =
    (own : Option Opening) × (later : Option Opening) × OpeningOf book p own
    × LastOpening book positions later × (opening ≡ option_or later own)

-- what an answer names: its whole by the root and the moves from there, and each of these moves by
-- the position behind it
pub record IsNaming (book : List NamedPosition) (query : Query) (played : List Move)
    (naming : Naming) : Type 0 where
  pub whole : LastOpening book (positions_on query.root query.plays) naming.whole
  pub moves : AllZip (λ m opening. OpeningOf book (after query.at m) opening) played naming.moves

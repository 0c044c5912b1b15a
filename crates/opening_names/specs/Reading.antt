-- Bridge: how the code reads a file of openings, piece by piece.
use Rattle.std.specs.Prelude.{◌≡◌, ℕ, ◌+◌, ◌<◌, Bool, List, [], ◌∷◌, ◌++◌, length, Option, None, Some, Result}
use Rattle.std.specs.Result.{result_map_both}
use Rattle.std.specs.List.{position_or_len, slice_split}
use Rattle.explorer_model.specs.declared.chess.Move.{Move}
use Rattle.explorer_model.specs.declared.chess.Position.{Position}
use Rattle.explorer_model.specs.declared.opening.BookFault.{BookFault}
use Rattle.explorer_model.specs.Chess.{after}
use Rattle.explorer_model.specs.Openings.{Columns, NamedPosition, lines_of, positions_on, words_of}
use Rattle.opening_names.specs.declared.line.Cut.{Cut}

-- what is left of the pieces of a text, if any is
abbrev pub pieces_left : (ℕ → Bool) → Option (List ℕ) → List (List ℕ)
pieces_left ends None = []
pieces_left ends (Some text) = slice_split ends text

abbrev pub lines_left : Option (List ℕ) → List (List ℕ)
lines_left None = []
lines_left (Some text) = lines_of text

-- the words that are left of a text
abbrev pub words_left : Option (List ℕ) → List (List ℕ)
words_left None = []
words_left (Some text) = words_of text

-- how much is left to read, and an end
abbrev pub size_left : Option (List ℕ) → ℕ
size_left None = 0
size_left (Some text) = length text + 1

-- the place of the first byte that passes, if one does
abbrev pub IsPlace : (ℕ → Bool) → List ℕ → Option ℕ → Type 0
IsPlace p text None = position_or_len p text ≡ length text
IsPlace p text (Some at) = (at ≡ position_or_len p text) × (at < length text)

-- the columns of a line as they were cut out
abbrev pub columns_as : Cut → Columns
columns_as cut = record { eco = cut.eco.now; name = cut.name.now; moves = cut.moves.now }

-- lines that were read, before what else is read
abbrev pub onto_all : List NamedPosition → Result (List NamedPosition) BookFault → Result (List NamedPosition) BookFault
onto_all named rest = result_map_both (λ lines. named ++ lines) (λ fault. fault) rest

-- where a walk along moves from the position comes to, the position itself left out
abbrev pub positions_behind : Position → List Move → List Position
positions_behind p [] = []
positions_behind p (m ∷ moves) = positions_on (after p m) moves

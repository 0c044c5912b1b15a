-- Statement: standard algebraic notation (PGN 8.2.3), as the explorer reads and writes it.
use Rattle.std.specs.Prelude.{◌≡◌, ◌≢◌, ℕ, ◌==◌, ◌&&◌, ◌||◌, ◌⊎◌, Bool, true, false, Option, Some, None, Result, Ok, Err, is_some, option_map, option_and_then, List, [], ◌∷◌, ◌++◌, reverse, codes, if◌then◌else◌}
use Rattle.explorer_model.specs.declared.chess.Role.{Role}
use Rattle.explorer_model.specs.declared.chess.Role.TheVariants.{Pawn}
use Rattle.explorer_model.specs.declared.chess.Side.{Side}
use Rattle.explorer_model.specs.declared.chess.Side.TheVariants.{Short, Long}
use Rattle.explorer_model.specs.declared.chess.Piece.{Piece}
use Rattle.explorer_model.specs.declared.chess.Position.{Position}
use Rattle.explorer_model.specs.declared.chess.Move.{Move}
use Rattle.explorer_model.specs.declared.fault.SanFault.{SanFault}
use Rattle.explorer_model.specs.declared.fault.SanFault.TheVariants.{NotSan, NoSuchMove, Ambiguous}
use Rattle.explorer_model.specs.declared.notation.NamedMove.{NamedMove}
use Rattle.explorer_model.specs.declared.notation.SanForm.{SanForm}
use Rattle.explorer_model.specs.declared.notation.SanForm.TheVariants.{Castling, Named}
use Rattle.explorer_model.specs.declared.notation.Start.{Start}
use Rattle.explorer_model.specs.declared.notation.Start.TheVariants.{Unnamed, File, Rank, Square}
use Rattle.explorer_model.specs.declared.notation.CheckMark.{CheckMark}
use Rattle.explorer_model.specs.declared.notation.CheckMark.TheVariants.{Quiet, Check, Mate}
use Rattle.explorer_model.specs.Board.{file_of, rank_of, piece_at, InCheck}
use Rattle.explorer_model.specs.Chess.{takes_en_passant, is_castling, castling_side, after, Legal}
use Rattle.explorer_model.specs.Letters.{byte, letter_of, role_of, promotions, lettered, file_named, rank_named, file_letter, rank_digit, square_text, square_named}

-- The grammar. A text is read from its right end, so these take its bytes last first.

-- `+` and `#`, of which any number may follow
abbrev pub is_mark : ℕ → Bool
is_mark b = (b == byte "+") || (b == byte "#")

abbrev pub unmarked : List ℕ → List ℕ
unmarked [] = []
unmarked (b ∷ bytes) = if is_mark b then unmarked bytes else b ∷ bytes

-- a part that may stand at the head, and the bytes that are left
abbrev pub optional : {A : Type 0} → (ℕ → Option A) → List ℕ → Option A × List ℕ
optional read [] = (None, [])
optional read (b ∷ bytes) = elim (read b) [
  | Some part ↦ (Some part, bytes)
  | None ↦ (None, b ∷ bytes)
]

abbrev pub byte_is : ℕ → ℕ → Option ℕ
byte_is wanted b = if b == wanted then Some b else None

-- a letter of N B R Q, with or without `=` before it
abbrev pub promoted : List ℕ → Option Role × List ℕ
promoted bytes = let part = optional (role_of promotions) bytes in
    (part.0, if is_some part.0 then (optional (byte_is (byte "=")) part.1).1 else part.1)

-- what is left is the letter of the piece, or nothing for a pawn
abbrev pub moved : List ℕ → Option Role
moved [] = Some Pawn
moved (b ∷ []) = role_of lettered b
moved (b ∷ c ∷ bytes) = None

-- before the target: the letter, the file, the rank and `x`
abbrev pub from_start : Option Role → ℕ → List ℕ → Option NamedMove
from_start promotion target bytes =
    let x = optional (byte_is (byte "x")) bytes in
    let rank = optional rank_named x.1 in
    let file = optional file_named rank.1 in
    option_map (λ role. record {
      role = role;
      file = file.0;
      rank = rank.0;
      captures = is_some x.0;
      target = target;
      promotion = promotion;
    }) (moved file.1)

-- before the promotion: the target and what stands before it
abbrev pub to_target : Option Role → List ℕ → Option NamedMove
to_target promotion (rank ∷ file ∷ bytes) =
    option_and_then (λ target. from_start promotion target bytes) (square_named file rank)
to_target promotion _ = None

abbrev pub named_move : List ℕ → Option NamedMove
named_move bytes = let part = promoted bytes in to_target part.0 part.1

-- the letter O, or the digit zero
abbrev pub is_o : ℕ → Bool
is_o b = (b == byte "O") || (b == byte "0")

abbrev pub is_hyphen : ℕ → Bool
is_hyphen b = b == byte "-"

-- O-O and O-O-O
abbrev pub castling : List ℕ → Option Side
castling (a ∷ b ∷ c ∷ []) = if is_o a && is_hyphen b && is_o c then Some Short else None
castling (a ∷ b ∷ c ∷ d ∷ e ∷ []) =
    if is_o a && is_hyphen b && is_o c && is_hyphen d && is_o e then Some Long else None
castling _ = None

abbrev pub form_of : List ℕ → Option SanForm
form_of bytes = elim (castling bytes) [
  | Some side ↦ Some (Castling side)
  | None ↦ option_map (λ form. Named form) (named_move bytes)
]

-- what a text names, where it is in the grammar
abbrev pub san_form : List ℕ → Option SanForm
san_form text = form_of (unmarked (reverse text))

-- Which moves agree with a text.

-- something is taken, en passant included
abbrev pub captures : Position → Move → Bool
captures p m = is_some (piece_at p.squares m.to.index) || takes_en_passant p m

abbrev pub IsRole : Role → Option Piece → Type 0
IsRole role None = ⊥
IsRole role (Some piece) = piece.role ≡ role

-- a file or rank is the one that is named, if one is
abbrev pub IsAsNamed : Option ℕ → ℕ → Type 0
IsAsNamed None n = Unit {0}
IsAsNamed (Some named) n = n ≡ named

-- the piece is the one that is named, and so is the square that it starts from
abbrev pub StartsAs : Position → NamedMove → Move → Type 0
StartsAs p form m =
    IsRole form.role (piece_at p.squares m.from.index)
    × IsAsNamed form.file (file_of m.from.index)
    × IsAsNamed form.rank (rank_of m.from.index)

-- `x` stands exactly where the move captures, and the target and the promotion are those that are
-- named
abbrev pub EndsAs : Position → NamedMove → Move → Type 0
EndsAs p form m =
    (captures p m ≡ form.captures) × (m.to.index ≡ form.target) × (m.promotion ≡ form.promotion)

-- the move is as the text names it (PGN 8.2.3.3): castling by its own form alone
abbrev pub Agrees : Position → SanForm → Move → Type 0
Agrees p (Castling side) m = (is_castling p m ≡ true) × (castling_side m ≡ side)
Agrees p (Named form) m = (is_castling p m ≡ false) × StartsAs p form m × EndsAs p form m

-- What a text means: the one legal move that agrees with it. A piece that may not move because of a
-- pin has no legal move to agree.

abbrev pub Answers : Position → SanForm → Result Move SanFault → Type 0
Answers p form (Ok m) =
    Legal p m × Agrees p form m × ((o : Move) → Legal p o → Agrees p form o → o ≡ m)
Answers p form (Err NotSan) = ⊥
Answers p form (Err NoSuchMove) = (m : Move) → Legal p m → ¬ Agrees p form m
Answers p form (Err Ambiguous) =
    (m : Move) × (o : Move) × (m ≢ o) × Legal p m × Legal p o × Agrees p form m × Agrees p form o

abbrev pub AnswersAs : Position → Option SanForm → Result Move SanFault → Type 0
AnswersAs p None r = r ≡ Err NotSan
AnswersAs p (Some form) r = Answers p form r

-- the text is read in the position as this move, or refused for this cause
abbrev pub SanReads : Position → List ℕ → Result Move SanFault → Type 0
SanReads p text r = AnswersAs p (san_form text) r

-- The written form.

-- from another square, the same kind of piece goes to the same target
abbrev pub MovesLike : Position → Move → Move → Type 0
MovesLike p m o =
    (o.from.index ≢ m.from.index)
    × (piece_at p.squares o.from.index ≡ piece_at p.squares m.from.index)
    × (o.to.index ≡ m.to.index)

-- another piece of the same kind that can legally move to the target (PGN 8.2.3.4)
abbrev pub Rivals : Position → Move → Move → Type 0
Rivals p m o = Legal p o × MovesLike p m o

abbrev pub RivalsOnFile : Position → Move → Move → Type 0
RivalsOnFile p m o = Rivals p m o × (file_of o.from.index ≡ file_of m.from.index)

abbrev pub RivalsOnRank : Position → Move → Move → Type 0
RivalsOnRank p m o = Rivals p m o × (rank_of o.from.index ≡ rank_of m.from.index)

-- what is written of a piece's first square: nothing where no other can get there, else the file,
-- else the rank, else both
abbrev pub PieceStart : Position → Move → Start → Type 0
PieceStart p m Unnamed = (o : Move) → ¬ Rivals p m o
PieceStart p m File = ((o : Move) × Rivals p m o) × ((o : Move) → ¬ RivalsOnFile p m o)
PieceStart p m Rank = ((o : Move) × RivalsOnFile p m o) × ((o : Move) → ¬ RivalsOnRank p m o)
PieceStart p m Square = ((o : Move) × RivalsOnFile p m o) × ((o : Move) × RivalsOnRank p m o)

-- a pawn's is its file where it captures
abbrev pub StartOf : Position → Move → Role → Start → Type 0
StartOf p m Pawn start = start ≡ (if captures p m then File else Unnamed)
StartOf p m _ start = PieceStart p m start

-- how the side that is to move stands
abbrev pub IsMarked : Position → CheckMark → Type 0
IsMarked p Quiet = ¬ InCheck p.squares p.turn
IsMarked p Check = InCheck p.squares p.turn × ((m : Move) × Legal p m)
IsMarked p Mate = InCheck p.squares p.turn × ((m : Move) → ¬ Legal p m)

abbrev pub role_text : Role → List ℕ
role_text Pawn = []
role_text role = letter_of role ∷ []

abbrev pub start_text : Start → ℕ → List ℕ
start_text Unnamed square = []
start_text File square = file_letter square ∷ []
start_text Rank square = rank_digit square ∷ []
start_text Square square = square_text square

abbrev pub capture_text : Bool → List ℕ
capture_text true = codes "x"
capture_text false = []

abbrev pub promotion_text : Option Role → List ℕ
promotion_text None = []
promotion_text (Some role) = byte "=" ∷ letter_of role ∷ []

abbrev pub castling_text : Side → List ℕ
castling_text Short = codes "O-O"
castling_text Long = codes "O-O-O"

abbrev pub mark_text : CheckMark → List ℕ
mark_text Quiet = []
mark_text Check = codes "+"
mark_text Mate = codes "#"

abbrev pub named_text : Position → Move → Role → Start → List ℕ
named_text p m role start =
    role_text role ++ start_text start m.from.index ++ capture_text (captures p m)
    ++ square_text m.to.index ++ promotion_text m.promotion

abbrev pub MoveText : Position → Move → List ℕ → Type 0
MoveText p m text =
    ((is_castling p m ≡ true) × (text ≡ castling_text (castling_side m)))
    ⊎ ((is_castling p m ≡ false)
    × ((role : Role) × (start : Start) × IsRole role (piece_at p.squares m.from.index)
    × StartOf p m role start × (text ≡ named_text p m role start)))

-- the text is the written form of the move
abbrev pub SanText : Position → Move → List ℕ → Type 0
SanText p m text =
    (move : List ℕ) × (mark : CheckMark) × MoveText p m move × IsMarked (after p m) mark
    × (text ≡ move ++ mark_text mark)

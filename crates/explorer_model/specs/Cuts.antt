-- Statement: how a stream of PGN games is cut into texts: at each line that begins with an Event
-- tag (PGN 8.1.1).
use Rattle.std.specs.Prelude.{ℕ, ◌+◌, Bool, true, false, ◌&&◌, ◌||◌, List, [], ◌∷◌, ◌++◌, length, drop, nat_le, nat_eq, ◌==◌, if◌then◌else◌, codes}
use Rattle.std.specs.List.{starts_with}
use Rattle.explorer_model.specs.declared.archive.Placed.{Placed}

-- what a stream is cut into; a place is an offset in the stream
pub data Cut : Type 0 where
  -- the text of one game
  Text : Placed → Cut
  -- the place of a text that is too long to be read, and its length
  TooLong : ℕ → ℕ → Cut
  -- the place of the first byte of something that stands before the first text
  Preamble : ℕ → Cut

-- ---- starts and texts

-- a line that begins so begins a text
abbrev pub event : List ℕ
event = codes "[Event "

-- what stands before the first start, and the texts, each from its start to the next or to the end
pub record Parted : Type 0 where
  pub before : List ℕ
  pub texts : List (List ℕ)

-- one byte before those that are parted; it begins a text where it stands at a start
unfoldable pub onto : Bool → ℕ → Parted → Parted
onto true b parts = record { before = []; texts = (b ∷ parts.before) ∷ parts.texts }
onto false b parts = record { before = b ∷ parts.before; texts = parts.texts }

-- the bytes, parted at each line that begins with an Event tag; fresh: a line begins at their first
unfoldable pub parted : Bool → List ℕ → Parted
parted fresh [] = record { before = []; texts = [] }
parted fresh (b ∷ bytes) =
    onto (fresh && starts_with nat_eq (b ∷ bytes) event) b (parted (b == 10) bytes)

-- ---- cuts

-- white space is the bytes 9 to 13 and 32
unfoldable pub is_white_space : ℕ → Bool
is_white_space b = (nat_le 9 b && nat_le b 13) || b == 32

-- a refusal of the first byte that is not white space, where there is one
unfoldable pub preamble : ℕ → List ℕ → List Cut
preamble place [] = []
preamble place (b ∷ bytes) =
    if is_white_space b then preamble (place + 1) bytes else Preamble place ∷ []

-- the most bytes of a text that is read
abbrev pub text_limit : ℕ
text_limit = 65536

unfoldable pub cut_at : ℕ → List ℕ → Cut
cut_at place text =
    if nat_le (length text) text_limit then Text (record { place = place; bytes = text })
    else TooLong place (length text)

-- one text after another, the first at the place
unfoldable pub cuts_of : ℕ → List (List ℕ) → List Cut
cuts_of place [] = []
cuts_of place (text ∷ texts) = cut_at place text ∷ cuts_of (place + length text) texts

-- the cuts of bytes that stand at the place and begin a line
unfoldable pub cuts_from : ℕ → List ℕ → List Cut
cuts_from place bytes =
    let parts = parted true bytes in
    preamble place parts.before ++ cuts_of (place + length parts.before) parts.texts

-- the byte order mark of UTF-8
abbrev pub mark : List ℕ
mark = 239 ∷ 187 ∷ 191 ∷ []

-- the cuts of a whole stream, in its order; a mark at the very start is skipped, and a line begins after it
unfoldable pub cuts : List ℕ → List Cut
cuts stream =
    if starts_with nat_eq stream mark then cuts_from 3 (drop 3 stream) else cuts_from 0 stream

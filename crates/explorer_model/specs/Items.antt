-- Statement: the items of a game's text, from its first byte to its last (PGN 5 to 8, 10).
use Rattle.std.specs.Prelude.{ℕ, zero, suc, ◌+◌, ◌-◌, Bool, true, false, ◌&&◌, ◌||◌, not, List, [], ◌∷◌, length, take, drop, Option, Some, None, option_map, option_and_then, position, ◌==◌, if◌then◌else◌, codes, bytes_eq}
use Rattle.std.specs.Int.{is_in_range}
use Rattle.std.specs.List.{list_all, prefix_len, position_or_len}
use Rattle.std.specs.Char.{is_ascii_digit, is_ascii_alphanumeric}
use Rattle.std.specs.Str.{byte}
use Rattle.explorer_model.specs.declared.archive.Ending.{Ending}
use Rattle.explorer_model.specs.declared.archive.Ending.TheVariants as endings
use Rattle.explorer_model.specs.declared.archive.Tag.{Tag}

-- what an item is
pub data Kind : Type 0 where
  -- white space, a comment or an escape line
  Blank : Kind
  -- a tag pair
  Pair : Tag → Kind
  -- a game termination marker
  Terminates : Ending → Kind
  -- a symbol that is neither that nor a move number
  Word : Kind
  -- a move number, a period, a suffix or a NAG
  Dropped : Kind
  -- the parentheses of a variation
  Opens : Kind
  Closes : Kind
  -- no item of the grammar begins here
  Wrong : Kind

-- an item's kind, and how many bytes it has after its first
pub record Shape : Type 0 where
  pub kind : Kind
  pub more : ℕ

-- ---- bytes

-- tab, line feed, vertical tab, form feed, carriage return and space
abbrev pub is_white : ℕ → Bool
is_white b = is_in_range 9 13 b || b == byte " "

abbrev pub begins_symbol : ℕ → Bool
begins_symbol b = is_ascii_alphanumeric b || b == byte "-"

-- a sign that a symbol may have after its first byte
abbrev pub is_symbol_sign : ℕ → Bool
is_symbol_sign b =
    b == byte "+" || b == byte "#" || b == byte "=" || b == byte "-" || b == byte "/"
    || b == byte ":" || b == byte "_"

abbrev pub continues_symbol : ℕ → Bool
continues_symbol b = is_ascii_alphanumeric b || is_symbol_sign b

abbrev pub is_of_name : ℕ → Bool
is_of_name b = is_ascii_alphanumeric b || b == byte "_"

-- a period of a move number, or a suffix of a move
abbrev pub is_mark : ℕ → Bool
is_mark b = b == byte "." || b == byte "!" || b == byte "?"

-- ---- tag pairs

infixl 10 ◌>>=◌
abbrev pub ◌>>=◌ : {A B : Type 0} → Option A → (A → Option B) → Option B
found >>= next = option_and_then next found

abbrev pub after_white : List ℕ → List ℕ
after_white bytes = drop (prefix_len is_white bytes) bytes

-- what follows the byte, where it stands first
abbrev pub after_byte : ℕ → List ℕ → Option (List ℕ)
after_byte wanted [] = None
after_byte wanted (b ∷ bytes) = if b == wanted then Some bytes else None

-- a name, and what follows it
unfoldable pub name_at : List ℕ → Option (List ℕ × List ℕ)
name_at bytes =
    let count = prefix_len is_of_name bytes in
    if count == 0 then None else Some (take count bytes, drop count bytes)

abbrev pub is_escapable : List ℕ → Bool
is_escapable [] = false
is_escapable (b ∷ bytes) = b == byte "\"" || b == byte "\\"

-- b is a backslash that escapes the byte after it; escaped: the byte before b escapes b
abbrev pub escapes : Bool → ℕ → List ℕ → Bool
escapes escaped b bytes = not escaped && b == byte "\\" && is_escapable bytes

abbrev pub keep_unless : Bool → ℕ → List ℕ → List ℕ
keep_unless true b bytes = bytes
keep_unless false b bytes = b ∷ bytes

abbrev pub closes_string : Bool → ℕ → Bool
closes_string escaped b = b == byte "\"" && not escaped

abbrev pub ends_line : ℕ → Bool
ends_line b = b == 10 || b == 13

-- how many bytes stand before a string's closing quote, where no line ends before it
unfoldable pub string_len : Bool → List ℕ → Option ℕ
string_len escaped [] = None
string_len escaped (b ∷ bytes) =
    if closes_string escaped b then Some 0
    else (if ends_line b then None
    else option_map (λ count. count + 1) (string_len (escapes escaped b bytes) bytes))

-- a string without the backslashes that escape
unfoldable pub unescaped : Bool → List ℕ → List ℕ
unescaped escaped [] = []
unescaped escaped (b ∷ bytes) =
    keep_unless (escapes escaped b bytes) b (unescaped (escapes escaped b bytes) bytes)

-- a tag pair behind its bracket, and what follows it
unfoldable pub pair_of : List ℕ → Option (Tag × List ℕ)
pair_of bytes = do
  name ← name_at (after_white bytes)
  string ← after_byte (byte "\"") (after_white name.1)
  count ← string_len false string
  rest ← after_byte (byte "]") (after_white (drop (count + 1) string))
  Some (record { name = name.0; value = unescaped false (take count string) }, rest)

-- ---- symbols

unfoldable pub ending_of : List ℕ → Option Ending
ending_of symbol =
    if bytes_eq symbol (codes "1-0") then Some endings.WhiteWins
    else (if bytes_eq symbol (codes "0-1") then Some endings.BlackWins
    else (if bytes_eq symbol (codes "1/2-1/2") then Some endings.Drawn
    else None))

abbrev pub kind_by_ending : Option Ending → Kind
kind_by_ending None = Word
kind_by_ending (Some ending) = Terminates ending

-- digits alone are a move number
abbrev pub kind_of_symbol : List ℕ → Kind
kind_of_symbol symbol =
    if list_all is_ascii_digit symbol then Dropped else kind_by_ending (ending_of symbol)

-- ---- what a byte begins

pub data Lead : Type 0 where
  White : Lead
  -- "{"
  Comment : Lead
  -- ";", or "%" where a line begins
  Remark : Lead
  Bracket : Lead
  Symbol : Lead
  Star : Lead
  Mark : Lead
  Dollar : Lead
  Opening : Lead
  Closing : Lead
  Other : Lead

abbrev pub lead_of_sign : ℕ → Lead
lead_of_sign b = if b == byte "*" then Star else (if b == byte "$" then Dollar else Other)

abbrev pub lead_of_bracket : ℕ → Lead
lead_of_bracket b =
    if b == byte "[" then Bracket
    else (if b == byte "(" then Opening else (if b == byte ")" then Closing else lead_of_sign b))

abbrev pub lead_of_comment : Bool → ℕ → Lead
lead_of_comment fresh b =
    if b == byte "{" then Comment
    else (if b == byte ";" || fresh && b == byte "%" then Remark else lead_of_bracket b)

-- fresh: a line begins at the byte
unfoldable pub lead_of : Bool → ℕ → Lead
lead_of fresh b =
    if is_white b then White
    else (if begins_symbol b then Symbol else (if is_mark b then Mark else lead_of_comment fresh b))

-- ---- items

abbrev pub one_byte : Kind → Shape
one_byte kind = record { kind = kind; more = 0 }

abbrev pub comment_up_to : Option ℕ → Shape
comment_up_to None = one_byte Wrong
comment_up_to (Some count) = record { kind = Blank; more = count + 1 }

-- a brace comment ends at the first "}" and does not nest
unfoldable pub comment_of : List ℕ → Shape
comment_of bytes = comment_up_to (position (λ b. b == byte "}") bytes)

-- up to the line's end
unfoldable pub remark_of : List ℕ → Shape
remark_of bytes = record { kind = Blank; more = position_or_len (λ b. b == 10) bytes }

-- a NAG has a digit
unfoldable pub nag_of : List ℕ → Shape
nag_of bytes =
    let digits = prefix_len is_ascii_digit bytes in
    if digits == 0 then one_byte Wrong else record { kind = Dropped; more = digits }

abbrev pub pair_within : List ℕ → Option (Tag × List ℕ) → Shape
pair_within bytes None = one_byte Wrong
pair_within bytes (Some found) =
    record { kind = Pair found.0; more = length bytes - length found.1 }

unfoldable pub pair_item_of : List ℕ → Shape
pair_item_of bytes = pair_within bytes (pair_of bytes)

unfoldable pub symbol_of : ℕ → List ℕ → Shape
symbol_of b bytes =
    let more = prefix_len continues_symbol bytes in
    record { kind = kind_of_symbol (b ∷ take more bytes); more = more }

-- the item that begins with b, where the bytes follow
abbrev pub shape_by : Lead → ℕ → List ℕ → Shape
shape_by White b bytes = one_byte Blank
shape_by Comment b bytes = comment_of bytes
shape_by Remark b bytes = remark_of bytes
shape_by Bracket b bytes = pair_item_of bytes
shape_by Symbol b bytes = symbol_of b bytes
shape_by Star b bytes = one_byte (Terminates endings.Unknown)
shape_by Mark b bytes = one_byte Dropped
shape_by Dollar b bytes = nag_of bytes
shape_by Opening b bytes = one_byte Opens
shape_by Closing b bytes = one_byte Closes
shape_by Other b bytes = one_byte Wrong

abbrev pub shape_of : Bool → ℕ → List ℕ → Shape
shape_of fresh b bytes = shape_by (lead_of fresh b) b bytes

-- place: the offset of the item's first byte in the text
pub record Item : Type 0 where
  pub kind : Kind
  pub place : ℕ
  pub text : List ℕ

-- The items of the bytes from a place on, without the first ones, which belong to the item before. An item begins
-- at each byte that no earlier item has. fresh: a line begins here.
unfoldable pub items_from : ℕ → Bool → ℕ → List ℕ → List Item
items_from skipped fresh place [] = []
items_from (suc skipped) fresh place (b ∷ bytes) = items_from skipped (b == 10) (place + 1) bytes
items_from zero fresh place (b ∷ bytes) =
    let shape = shape_of fresh b bytes in
    record { kind = shape.kind; place = place; text = b ∷ take shape.more bytes }
    ∷ items_from shape.more (b == 10) (place + 1) bytes

unfoldable pub items : List ℕ → List Item
items text = items_from 0 true 0 text

-- Statement: what is asked in the bytes of a connection: requests, one after another, and refusals
-- (RFC 9112).
use Rattle.std.specs.Prelude.{◌≡◌, ◌≤◌, ◌⊎◌, ⊤, ℕ, ◌+◌, ◌-◌, Bool, ◌&&◌, ◌||◌, ◌==◌, nat_le, MatchBool, List, [], ◌∷◌, length, take, drop, map, filter, count_by, bytes_eq, codes, if◌then◌else◌, Option, Some, None, option_map, Result, Ok, Err}
use Rattle.std.specs.List.{list_any, prefix_len, slice_split, before_first, after_first}
use Rattle.std.specs.Option.{option_or}
use Rattle.std.specs.Result.{result_map_both}
use Rattle.std.specs.Str.{byte}
use Rattle.httparse.specs.Grammar.{RequestHead, ReadsRequest, field_value, trim_ows}
use Rattle.explorer_model.specs.declared.wire.Asked.{Asked}
use Rattle.explorer_model.specs.declared.wire.Asked.TheVariants.{Wanted, Refused, NoMemory, Done, Cut, ReadFault}
use Rattle.explorer_model.specs.declared.wire.Method.{Method}
use Rattle.explorer_model.specs.declared.wire.Method.TheVariants as methods
use Rattle.explorer_model.specs.declared.wire.Path.{Path}
use Rattle.explorer_model.specs.declared.wire.Path.TheVariants as paths
use Rattle.explorer_model.specs.declared.wire.Request.{Request}
use Rattle.explorer_model.specs.declared.wire.RequestFault.{RequestFault}
use Rattle.explorer_model.specs.declared.wire.RequestFault.TheVariants.{BadRequest, TooLarge, HeadTooLarge}
use Rattle.explorer_model.specs.Classes.{number_of}
use Rattle.explorer_model.specs.Items.{ends_line}
use Rattle.explorer_model.specs.Letters.{is_same_word}

-- ---- limits

-- the most requests of a connection
abbrev pub request_limit : ℕ
request_limit = 1000

-- the most bytes of a head, with the line ends before it
abbrev pub head_limit : ℕ
head_limit = 8192

-- the most lines of a head: that of the request, 32 fields, and the empty one
abbrev pub line_limit : ℕ
line_limit = 34

-- the most bytes of a body
abbrev pub body_limit : ℕ
body_limit = 4194304

-- ---- a head in the bytes

-- how many bytes an empty line has that begins here
abbrev pub empty_line : List ℕ → Option ℕ
empty_line bytes =
    if bytes_eq (take 1 bytes) (10 ∷ []) then Some 1
    else (if bytes_eq (take 2 bytes) (13 ∷ 10 ∷ []) then Some 2 else None)

-- how many bytes stand up to the end of the first empty line behind another line
unfoldable pub head_len : List ℕ → Option ℕ
head_len [] = None
head_len (b ∷ bytes) =
    let here = if b == 10 then empty_line bytes else None in
    option_map (λ count. count + 1) (option_or here (head_len bytes))

abbrev pub lines_in : List ℕ → ℕ
lines_in bytes = count_by (λ b. b == 10) bytes

-- what the bytes begin with
pub data Opening : Type 0 where
  -- the text of a head, and what follows it
  Head : List ℕ → List ℕ → Opening
  -- a head with too many bytes or lines, whether or not it ends
  TooLong : Opening
  -- a head that does not end
  Begun : Opening
  -- nothing but line ends
  Blank : Opening

abbrev pub begun : List ℕ → Opening
begun [] = Blank
begun (b ∷ text) = Begun

-- behind so many line ends stands this text, whose head has so many bytes
abbrev pub opening_by : ℕ → List ℕ → Option ℕ → Opening
opening_by skipped text (Some count) =
    if nat_le (skipped + count) head_limit && nat_le (lines_in (take count text)) line_limit
    then Head (take count text) (drop count text) else TooLong
opening_by skipped text None =
    if nat_le head_limit (skipped + length text) || nat_le line_limit (lines_in text)
    then TooLong else begun text

-- the bytes 13 and 10 before a request are skipped
unfoldable pub opening : List ℕ → Opening
opening bytes =
    let skipped = prefix_len ends_line bytes in
    let text = drop skipped bytes in
    opening_by skipped text (head_len text)

-- ---- what a head asks

-- the text is the head, as `httparse` reads it into room for 32 fields
pub record IsHeadOf (text : List ℕ) (head : RequestHead) : Type 0 where
  pub reads : ReadsRequest text head []
  pub few : length head.fields ≤ 32

-- the values of the fields of a name
unfoldable pub values_of : List ℕ → RequestHead → List (List ℕ)
values_of name head =
    map field_value (filter (λ field. is_same_word name field.name) head.fields)

abbrev pub is_there : List (List ℕ) → Bool
is_there values = nat_le 1 (length values)

-- the body's length by the values of Content-Length: one of one to ten digits, or none
abbrev pub length_by : List (List ℕ) → Option ℕ
length_by [] = Some 0
length_by (value ∷ []) = number_of 10 value
length_by _ = None

abbrev pub within_limit : Option ℕ → Result ℕ RequestFault
within_limit None = Err BadRequest
within_limit (Some count) = if nat_le count body_limit then Ok count else Err TooLarge

-- how many bytes the body has
abbrev pub body_len : RequestHead → Result ℕ RequestFault
body_len head =
    if is_there (values_of (codes "transfer-encoding") head) then Err BadRequest
    else within_limit (length_by (values_of (codes "content-length") head))

-- a word between the commas of a value is `close`
abbrev pub has_close : List ℕ → Bool
has_close value =
    list_any (λ word. is_same_word (codes "close") (trim_ows word))
    (slice_split (λ b. b == byte ",") value)

-- the connection is closed behind the reply; more: how many requests it may still bring
unfoldable pub is_last : ℕ → RequestHead → Bool
is_last more head =
    head.minor == 0 || list_any has_close (values_of (codes "connection") head) || more == 1

abbrev pub method_of : List ℕ → Method
method_of text =
    if bytes_eq text (codes "GET") then methods.Get
    else (if bytes_eq text (codes "POST") then methods.Post else methods.Other)

abbrev pub path_of : List ℕ → Path
path_of text =
    if bytes_eq text (codes "/lichess") then paths.Lichess
    else (if bytes_eq text (codes "/player") then paths.Player
    else (if bytes_eq text (codes "/import") then paths.Import else paths.Other))

abbrev pub request_of : ℕ → RequestHead → List ℕ → Request
request_of more head body = record {
  method = method_of head.method;
  path = path_of (before_first (λ b. b == byte "?") head.target);
  query = after_first (λ b. b == byte "?") head.target;
  body = body;
  last = is_last more head;
}

-- a head, and how many bytes its body has
pub record Sized : Type 0 where
  pub head : RequestHead
  pub body_len : ℕ

abbrev pub sized : RequestHead → Result Sized RequestFault
sized head =
    result_map_both (λ count. record { head = head; body_len = count }) (λ fault. fault)
    (body_len head)

-- the text is a head, or is refused
abbrev pub HeadReads : List ℕ → Result Sized RequestFault → Type 0
HeadReads text reading =
    ((head : RequestHead) × IsHeadOf text head × (reading ≡ sized head))
    ⊎ (((head : RequestHead) → ¬ IsHeadOf text head) × (reading ≡ Err BadRequest))

-- ---- what stands first

pub data Front : Type 0 where
  -- a whole request, and the bytes behind it
  Whole : Request → List ℕ → Front
  Refuses : RequestFault → Front
  -- a request that does not end
  Unfinished : Front
  -- no byte of a request
  Empty : Front

-- a head that is read, before the bytes behind it
abbrev pub front_of : ℕ → Result Sized RequestFault → List ℕ → Front
front_of more (Err fault) behind = Refuses fault
front_of more (Ok sized) behind =
    let count = sized.body_len in
    if nat_le count (length behind)
    then Whole (request_of more sized.head (take count behind)) (drop count behind)
    else Unfinished

abbrev pub IsFrontBy : ℕ → Opening → Front → Type 0
IsFrontBy more (Head text behind) front =
    (reading : Result Sized RequestFault) × HeadReads text reading
    × (front ≡ front_of more reading behind)
IsFrontBy more TooLong front = front ≡ Refuses HeadTooLarge
IsFrontBy more Begun front = front ≡ Unfinished
IsFrontBy more Blank front = front ≡ Empty

-- what stands first in the bytes of a connection that may still bring so many requests
abbrev pub IsFront : ℕ → List ℕ → Front → Type 0
IsFront more bytes front = IsFrontBy more (opening bytes) front

-- What is asked next, where these are all the bytes, and what is left of them behind a request.
-- A fault of reading comes between requests or within one, and want of memory at any time.
abbrev pub First : ℕ → List ℕ → Asked → List ℕ → Type 0
First more bytes (Wanted request) rest = IsFront more bytes (Whole request rest)
First more bytes (Refused fault) rest = IsFront more bytes (Refuses fault)
First more bytes NoMemory rest = ⊤
First more bytes Done rest = IsFront more bytes Empty
First more bytes Cut rest = IsFront more bytes Unfinished
First more bytes ReadFault rest = IsFront more bytes Empty ⊎ IsFront more bytes Unfinished

-- ---- all that is asked

abbrev pub asked_by : Front → Asked
asked_by (Whole request rest) = Wanted request
asked_by (Refuses fault) = Refused fault
asked_by Unfinished = Cut
asked_by Empty = Done

-- what is asked behind it: nothing more where the connection is closed, else what the rest asks
abbrev pub AsksBehind : (List ℕ → Type 0) → Front → List Asked → Type 0
AsksBehind Asks (Whole request rest) others =
    MatchBool request.last (others ≡ Done ∷ []) (Asks rest)
AsksBehind Asks (Refuses fault) others = others ≡ Done ∷ []
AsksBehind Asks Unfinished others = others ≡ []
AsksBehind Asks Empty others = others ≡ []

abbrev pub AsksFrom : ℕ → List ℕ → List Asked → Type 0
AsksFrom more bytes [] = ⊥
AsksFrom more bytes (asked ∷ others) =
    (front : Front) × IsFront more bytes front × (asked ≡ asked_by front)
    × AsksBehind (λ rest. AsksFrom (more - 1) rest others) front others

-- the requests and refusals that stand in all the bytes of a connection, and then Done or Cut
abbrev pub IsAsked : List ℕ → List Asked → Type 0
IsAsked bytes asked = AsksFrom request_limit bytes asked

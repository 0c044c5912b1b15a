-- Statement: what the tags of a text say of its game (PGN 8.1), or the first fault in the order in
-- which they are asked for.
use Rattle.std.specs.Prelude.{ℕ, ◌+◌, ◌*◌, ◌/◌, Bool, true, ◌&&◌, ◌||◌, List, [], ◌∷◌, length, take, drop, slice_index, slice_range, Option, Some, None, Result, Ok, Err, is_some, is_none, option_map, option_and_then, ok_or, nat_le, nat_lt, ◌==◌, if◌then◌else◌, codes, bytes_eq, ⊤}
use Rattle.std.specs.List.{list_any, list_all, before_first, after_first, after_last}
use Rattle.std.specs.Char.{is_ascii_alphanumeric}
use Rattle.std.specs.Str.{byte, is_utf8, all_ascii_digits, str_eq_ignore_ascii_case}
use Rattle.std.specs.Str.Parse.{digits_value}
use Rattle.explorer_model.specs.declared.archive.Classes.{Classes}
use Rattle.explorer_model.specs.declared.archive.GameId.{GameId}
use Rattle.explorer_model.specs.declared.archive.Group.{Group}
use Rattle.explorer_model.specs.declared.archive.Mode.{Mode}
use Rattle.explorer_model.specs.declared.archive.Mode.TheVariants.{Rated, Casual}
use Rattle.explorer_model.specs.declared.archive.Month.{Month}
use Rattle.explorer_model.specs.declared.archive.Outcome.{Outcome}
use Rattle.explorer_model.specs.declared.archive.Outcome.TheVariants as outcomes
use Rattle.explorer_model.specs.declared.archive.Speed.{Speed}
use Rattle.explorer_model.specs.declared.archive.Speed.TheVariants.{UltraBullet, Bullet, Blitz, Rapid, Classical, Correspondence}
use Rattle.explorer_model.specs.declared.archive.Tag.{Tag}
use Rattle.explorer_model.specs.declared.fault.TagFault.{TagFault}
use Rattle.explorer_model.specs.declared.fault.TagFault.TheVariants.{Missing, Bad, NotStandard, SetUp, UnknownResult}
use Rattle.explorer_model.specs.declared.fault.TagName.{TagName}
use Rattle.explorer_model.specs.declared.fault.TagName.TheVariants as names
use Rattle.explorer_model.specs.Refusals.{tag_text}
use Rattle.explorer_model.specs.Stop.{◌>>=◌}

-- ---- tags and their values

-- the value of the first pair of the name
abbrev pub value_of : List ℕ → List Tag → Option (List ℕ)
value_of name [] = None
value_of name (tag ∷ tags) = if bytes_eq tag.name name then Some tag.value else value_of name tags

-- the value of a tag that has to be there
abbrev pub required : TagName → List Tag → Result (List ℕ) TagFault
required name tags = ok_or (value_of (tag_text name) tags) (Missing name)

-- one to most decimal digits
abbrev pub number_of : ℕ → List ℕ → Option ℕ
number_of most text =
    if nat_le 1 (length text) && nat_le (length text) most && all_ascii_digits text
    then Some (digits_value 10 text) else None

-- ---- steps 1 and 2: standard chess, from the starting position or from one that is set up

-- the tag is absent, or has the value
abbrev pub is_absent_or : List ℕ → Option (List ℕ) → Bool
is_absent_or text None = true
is_absent_or text (Some value) = bytes_eq value text

unfoldable pub is_standard : List Tag → Bool
is_standard tags =
    is_absent_or (codes "Standard") (value_of (codes "Variant") tags)
    || is_absent_or (codes "From Position") (value_of (codes "Variant") tags)

-- the text of the position that the game begins in, where one is set up (PGN 9.7)
abbrev pub start_text : List Tag → Option (List ℕ)
start_text tags = value_of (codes "FEN") tags

-- what the tag SetUp says of it
abbrev pub set_up_text : Option (List ℕ) → List ℕ
set_up_text None = codes "0"
set_up_text (Some text) = codes "1"

-- the tag SetUp is absent, or says whether a position is set up
unfoldable pub agrees_on_set_up : List Tag → Bool
agrees_on_set_up tags =
    is_absent_or (set_up_text (start_text tags)) (value_of (codes "SetUp") tags)

-- nothing, or the fault where the condition does not hold
abbrev pub demand : {F : Type 0} → Bool → F → Result ⊤ F
demand holds fault = if holds then Ok tt else Err fault

-- ---- steps 3 to 11: what each value stands for

-- Rated where the first word is "rated" in any case of letters; a word ends at a space
unfoldable pub mode_of : List ℕ → Mode
mode_of event =
    if str_eq_ignore_ascii_case (before_first (λ b. b == byte " ") event) (codes "rated")
    then Rated else Casual

-- the eight letters or digits after the last slash
unfoldable pub id_of : List ℕ → Option GameId
id_of site =
    let id = after_last (λ b. b == byte "/") site in
    if list_any (λ b. b == byte "/") site && length id == 8 && list_all is_ascii_alphanumeric id
    then Some (record { bytes = id }) else None

-- valid UTF-8; it may be empty
unfoldable pub name_of : List ℕ → Option (List ℕ)
name_of text = if is_utf8 text then Some text else None

unfoldable pub outcome_of : List ℕ → Result Outcome TagFault
outcome_of text =
    if bytes_eq text (codes "1-0") then Ok outcomes.White
    else (if bytes_eq text (codes "0-1") then Ok outcomes.Black
    else (if bytes_eq text (codes "1/2-1/2") then Ok outcomes.Draw
    else (if bytes_eq text (codes "*") then Err UnknownResult
    else Err (Bad names.Result))))

-- one to four digits, at most 4000
unfoldable pub rating_of : List ℕ → Option ℕ
rating_of text =
    option_and_then (λ rating. if nat_le rating 4000 then Some rating else None) (number_of 4 text)

-- the time that a game gives each player, in seconds
pub record Clock : Type 0 where
  pub base : ℕ
  pub increment : ℕ

-- N, or N+I, each of one to six digits; N alone has the increment 0
unfoldable pub clock_of : List ℕ → Option Clock
clock_of text =
    if list_any (λ b. b == byte "+") text
    then option_and_then
    (λ base. option_map (λ increment. record { base = base; increment = increment })
    (number_of 6 (after_first (λ b. b == byte "+") text)))
    (number_of 6 (before_first (λ b. b == byte "+") text))
    else option_map (λ base. record { base = base; increment = 0 }) (number_of 6 text)

-- by the seconds that a game of 40 moves takes
unfoldable pub speed_of : Clock → Speed
speed_of clock =
    let duration = clock.base + 40 * clock.increment in
    if nat_lt duration 30 then UltraBullet
    else (if nat_lt duration 180 then Bullet
    else (if nat_lt duration 480 then Blitz
    else (if nat_lt duration 1500 then Rapid
    else Classical)))

-- "-" is correspondence
unfoldable pub control_of : List ℕ → Option Speed
control_of text =
    if bytes_eq text (codes "-") then Some Correspondence else option_map speed_of (clock_of text)

-- the groups' least ratings, from the greatest down
abbrev pub floors : List ℕ
floors = 2500 ∷ 2200 ∷ 2000 ∷ 1800 ∷ 1600 ∷ 1400 ∷ 1200 ∷ 1000 ∷ []

-- the first that is not above the rating, or 0
abbrev pub floor_of : ℕ → List ℕ → ℕ
floor_of rating [] = 0
floor_of rating (floor ∷ lower) = if nat_le floor rating then floor else floor_of rating lower

-- the group of a game by its players' ratings: that of their mean, rounded down
unfoldable pub group_of : ℕ → ℕ → Group
group_of white black = record { value = floor_of ((white + black) / 2) floors }

-- YYYY.MM.DD: four digits, 01 to 12, two digits or "??"
unfoldable pub month_of : List ℕ → Option Month
month_of text =
    let year = take 4 text in
    let month = slice_range text 5 7 in
    let day = drop 8 text in
    if length text == 10 && slice_index text 4 == byte "." && slice_index text 7 == byte "."
    && all_ascii_digits year && all_ascii_digits month
    && (all_ascii_digits day || bytes_eq day (codes "??"))
    && nat_le 1 (digits_value 10 month) && nat_le (digits_value 10 month) 12
    then Some (record { year = digits_value 10 year; month = digits_value 10 month })
    else None

-- the date by UTC, or where it is absent the local one
abbrev pub date_name : List Tag → TagName
date_name tags =
    if is_none (value_of (codes "UTCDate") tags) && is_some (value_of (codes "Date") tags)
    then names.Date else names.UtcDate

-- ---- the steps in their order

-- a value that the rule gives, of a tag that has to be there
abbrev pub asked : {A : Type 0} → TagName → (List ℕ → Option A) → List Tag → Result A TagFault
asked name rule tags = required name tags >>= λ value. ok_or (rule value) (Bad name)

unfoldable pub classes : List Tag → Result Classes TagFault
classes tags = do
  _ ← demand (is_standard tags) NotStandard
  _ ← demand (agrees_on_set_up tags) SetUp
  event ← required names.Event tags
  id ← asked names.Site id_of tags
  white ← asked names.White name_of tags
  black ← asked names.Black name_of tags
  result ← required names.Result tags
  outcome ← outcome_of result
  white_rating ← asked names.WhiteElo rating_of tags
  black_rating ← asked names.BlackElo rating_of tags
  speed ← asked names.TimeControl control_of tags
  month ← asked (date_name tags) month_of tags
  Ok (record {
    id = id;
    white = record { name = white; rating = white_rating };
    black = record { name = black; rating = black_rating };
    outcome = outcome;
    mode = mode_of event;
    speed = speed;
    group = group_of white_rating black_rating;
    month = month;
  })

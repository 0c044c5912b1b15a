-- The classes of a game are sound: each step of reading its tags gives what they may say.
use Rattle.std.proofs.Common.{◌≡◌, ℕ, zero, suc, ◌+◌, ◌/◌, ◌<◌, ◌≤◌, Bool, true, false, ◌&&◌, if◌then◌else◌, List, [], ◌∷◌, length, nat_le, leb-true, lit<, ok_or, Option, Some, None, Result, Ok, Err, IfOk, IfSome, ◌==◌, refl, sym, subst, arith}
use Rattle.std.proofs.lemmas.Bool.Decides.{nat_tests}
use Rattle.std.proofs.lemmas.Str.Ascii.{IsAscii-nil}
use Rattle.std.specs.Prelude.{option_and_then}
use Rattle.std.specs.Char.{is_ascii_alphanumeric}
use Rattle.std.specs.List.{list_all, list_any, after_last}
use Rattle.std.specs.Result.{result_map_both}
use Rattle.std.specs.Str.{IsAscii, byte}
use Rattle.explorer_model.specs.declared.archive.Game.{Game}
use Rattle.explorer_model.specs.declared.archive.GameId.{GameId}
use Rattle.explorer_model.specs.declared.archive.Tag.{Tag}
use Rattle.explorer_model.specs.declared.chess.Position.{Position}
use Rattle.explorer_model.specs.declared.fault.GameFault.{GameFault}
use Rattle.explorer_model.specs.declared.fault.GameFault.TheVariants as faults
use Rattle.explorer_model.specs.declared.fault.TagFault.TheVariants.{NotStandard, SetUp, Bad}
use Rattle.explorer_model.specs.declared.fault.TagName.{TagName}
use Rattle.explorer_model.specs.declared.fault.TagName.TheVariants as names
use Rattle.explorer_model.specs.Classes.{classes, group_of, floor_of, floors, demand, is_standard, agrees_on_set_up, required, asked, id_of, name_of, outcome_of, rating_of, number_of, control_of, date_name, month_of}
use Rattle.explorer_model.specs.Counting.{group_place}
use Rattle.explorer_model.specs.Games.{Tagged, tagged, Score, score, ScoreOfTagged, GameOfScore, ends_with, ply_limit}
use Rattle.explorer_model.specs.Parts.{parts}
use Rattle.explorer_model.specs.SoundClasses.{IsMonth, AreSoundClasses}
use Rattle.explorer_model.specs.Visits.{IsTextOf}
use Rattle.explorer_model.proofs.Readings.{Err-not-Ok, map-ok, bind-if, bind-if-given, if-map}

-- ---- each step

-- what a tag is asked for has what its rule gives
asked-has : {A : Type 0} (P : A → Type 0) (name : TagName) (rule : List ℕ → Option A) (tags : List Tag)
    → ((text : List ℕ) → IfSome (rule text) P) → IfOk (asked name rule tags) P
asked-has {A = A} P name rule tags each = bind-if P (required name tags) _ (λ value. or-bad name (rule value) (each value))
  where
    or-bad : (name : TagName) (found : Option A) → IfSome found P → IfOk (ok_or found (Bad name)) P
    or-bad name (Some x) holds = holds
    or-bad name None holds = tt

if-has : {A : Type 0} (P : A → Type 0) (b : Bool) (x : A) → (b ≡ true → P x) → IfSome (if b then Some x else None) P
if-has P true x holds = holds refl
if-has P false x holds = tt

abbrev HasAsciiId : GameId → Type 0
HasAsciiId id = IsAscii id.bytes

letter-or-digit : (b : ℕ) → is_ascii_alphanumeric b ≡ true → b < 128
letter-or-digit b is = grind (arith, nat_tests, is)

alphanumeric-ascii : (bytes : List ℕ) → list_all is_ascii_alphanumeric bytes ≡ true → IsAscii bytes
alphanumeric-ascii [] all = λ i. IsAscii-nil i
alphanumeric-ascii (b ∷ bytes) all =
    let both = and-parts (is_ascii_alphanumeric b) (list_all is_ascii_alphanumeric bytes) all in
    at-each b bytes (letter-or-digit b both.0) (alphanumeric-ascii bytes both.1)
  where
    and-parts : (x y : Bool) → x && y ≡ true → (x ≡ true) × (y ≡ true)
    and-parts true y is = (refl, is)
    and-parts false y is = cc

    at-each : (b : ℕ) (bytes : List ℕ) → b < 128 → IsAscii bytes → IsAscii (b ∷ bytes)
    at-each b bytes low rest zero = low
    at-each b bytes low rest (suc i) = rest i

id-ascii : (site : List ℕ) → IfSome (id_of site) HasAsciiId
unfolding id_of
id-ascii site =
    let id : List ℕ = after_last (λ b. b == byte "/") site in
    if-has HasAsciiId _ (record { bytes = id }) (λ is. alphanumeric-ascii id
    (and-last (list_any (λ b. b == byte "/") site) (length id == 8) (list_all is_ascii_alphanumeric id) is))
  where
    and-last : (x y z : Bool) → (x && y) && z ≡ true → z ≡ true
    and-last true true z is = is
    and-last true false z is = cc
    and-last false y z is = cc

abbrev IsRating : ℕ → Type 0
IsRating rating = rating ≤ 4000

rating-is : (text : List ℕ) → IfSome (rating_of text) IsRating
unfolding rating_of
rating-is text = by (number_of 4 text)
  where
    if-rating : (b : Bool) (rating : ℕ) → nat_le rating 4000 ≡ b → IfSome (if b then Some rating else None) IsRating
    if-rating true rating is = leb-true rating 4000 is
    if-rating false rating is = tt

    by : (number : Option ℕ) → IfSome (option_and_then (λ rating. if nat_le rating 4000 then Some rating else None) number) IsRating
    by (Some rating) = if-rating (nat_le rating 4000) rating refl
    by None = tt

month-is : (text : List ℕ) → IfSome (month_of text) IsMonth
unfolding month_of
month-is text = if-has IsMonth _ _ (λ is. (grind (arith, nat_tests), grind (arith, nat_tests)))

-- ---- the group is one of the nine

abbrev IsPlaced : ℕ → Type 0
IsPlaced rating = group_place rating < 9

abbrev ArePlaced : List ℕ → Type 0
ArePlaced [] = IsPlaced 0
ArePlaced (floor ∷ lower) = IsPlaced floor × ArePlaced lower

floor-placed : (rating : ℕ) (floors : List ℕ) → ArePlaced floors → IsPlaced (floor_of rating floors)
floor-placed rating [] placed = placed
floor-placed rating (floor ∷ lower) placed =
    elim (nat_le floor rating) as (λ b. IsPlaced (if b then floor else floor_of rating lower)) [
      | true ↦ placed.0
      | false ↦ floor-placed rating lower placed.1
    ]

group-placed : (white black : ℕ) → IsPlaced (group_of white black).value
unfolding group_of
group-placed white black =
    floor-placed ((white + black) / 2) floors
    (lit< tt, (lit< tt, (lit< tt, (lit< tt, (lit< tt, (lit< tt, (lit< tt, (lit< tt, lit< tt))))))))

-- ---- all steps, and the game

classes-sound : (tags : List Tag) → IfOk (classes tags) AreSoundClasses
unfolding classes
classes-sound tags =
    bind-if AreSoundClasses (demand (is_standard tags) NotStandard) _ (λ _.
    bind-if AreSoundClasses (demand (agrees_on_set_up tags) SetUp) _ (λ _.
    bind-if AreSoundClasses (required names.Event tags) _ (λ event.
    bind-if-given HasAsciiId AreSoundClasses (asked names.Site id_of tags) _
    (asked-has HasAsciiId names.Site id_of tags id-ascii) (λ id of_id.
    bind-if AreSoundClasses (asked names.White name_of tags) _ (λ white.
    bind-if AreSoundClasses (asked names.Black name_of tags) _ (λ black.
    bind-if AreSoundClasses (required names.Result tags) _ (λ result.
    bind-if AreSoundClasses (outcome_of result) _ (λ outcome.
    bind-if-given IsRating AreSoundClasses (asked names.WhiteElo rating_of tags) _
    (asked-has IsRating names.WhiteElo rating_of tags rating-is) (λ white_rating of_white.
    bind-if-given IsRating AreSoundClasses (asked names.BlackElo rating_of tags) _
    (asked-has IsRating names.BlackElo rating_of tags rating-is) (λ black_rating of_black.
    bind-if AreSoundClasses (asked names.TimeControl control_of tags) _ (λ speed.
    bind-if-given IsMonth AreSoundClasses (asked (date_name tags) month_of tags) _
    (asked-has IsMonth (date_name tags) month_of tags month-is) (λ month of_month. record {
      id = of_id;
      white = of_white;
      black = of_black;
      group = group-placed white_rating black_rating;
      month = of_month;
    }))))))))))))

abbrev IsSoundlyTagged : Tagged → Type 0
IsSoundlyTagged found = AreSoundClasses found.classes

tagged-sound : (text : List ℕ) → IfOk (tagged text) IsSoundlyTagged
unfolding tagged
tagged-sound text =
    bind-if IsSoundlyTagged (result_map_both (λ parts. parts) (λ fault. faults.Lex fault.place) (parts text)) _ (λ parts.
    bind-if-given AreSoundClasses IsSoundlyTagged (result_map_both (λ classes. classes) faults.Tag (classes parts.tags)) _
    (if-map AreSoundClasses AreSoundClasses (λ c. c) faults.Tag (classes parts.tags) (λ c has. has) (classes-sound parts.tags)) (λ found has. has))

abbrev HasSoundClasses : Score → Type 0
HasSoundClasses found = AreSoundClasses found.classes

score-sound : (found : Tagged) (root : Position) → IsSoundlyTagged found → IfOk (score found root) HasSoundClasses
unfolding score
score-sound found root has =
    bind-if HasSoundClasses (ok_or found.parts.termination faults.NoTermination) _ (λ ending.
    bind-if HasSoundClasses (demand (ends_with found.classes.outcome ending) faults.ResultDiffers) _ (λ _.
    bind-if HasSoundClasses (demand (nat_le (length found.parts.tokens) ply_limit) faults.TooManyPlies) _ (λ _. has)))

scored-sound : (reading : Result Tagged GameFault) (scored : Result Score GameFault) → IfOk reading IsSoundlyTagged → ScoreOfTagged reading scored
    → IfOk scored HasSoundClasses
scored-sound (Err fault) scored has is = let P : Result Score GameFault → Type 0 = λ r. IfOk r HasSoundClasses in subst P (sym is) tt
scored-sound (Ok found) scored has of =
    let P : Result Score GameFault → Type 0 = λ r. IfOk r HasSoundClasses in
    subst P (sym of.2) (bind-if HasSoundClasses of.0 (λ p. score found p) (λ p. score-sound found p has))

game-by : (reading : Result Score GameFault) (game : Game) → IfOk reading HasSoundClasses → GameOfScore reading (Ok game)
    → AreSoundClasses game.classes
game-by (Err fault) game holds of = absurd (Err-not-Ok fault game (sym of))
game-by (Ok found) game holds of =
    let played = map-ok (λ moves. record { classes = found.classes; root = found.root; moves = moves }) (λ fault. fault) of.0 game (sym of.2) in
    let P : Game → Type 0 = λ g. AreSoundClasses g.classes in
    subst P played.2 holds

pub game-sound : (text : List ℕ) (game : Game) → IsTextOf text game → AreSoundClasses game.classes
game-sound text game of = game-by of.0 game (scored-sound (tagged text) of.0 (tagged-sound text) of.1) of.2

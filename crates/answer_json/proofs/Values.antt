-- The values of lists, moves with their openings, and that no value of an answer is a float.
use Rattle.std.proofs.Common.{◌≡◌, ◌∙◌, refl, sym, ap, arith, ℕ, zero, suc, ◌+◌, ◌<◌, ◌≤◌, min, List, [], ◌∷◌, ◌++◌, map, take, length, get_or, false, Option, None, Some, Vec}
use Rattle.std.proofs.lemmas.List.{take_more, take_min, map-append}
use Rattle.std.proofs.Math.Seq.{take-length}
use Rattle.std.specs.declared.alloc.Global.{Global}
use Rattle.serde_json.proofs.Views.{view-Array}
use Rattle.serde_json.specs.Data.{Data, Items, item, array}
use Rattle.serde_json.specs.View.{view, items_of}
use Rattle.serde_json.specs.Written.{has_float, items_have_float}
use Rattle.serde_json.specs.declared.value.Value.{Value, Array}
use Rattle.explorer_model.specs.declared.answer.Found.{Found}
use Rattle.explorer_model.specs.declared.answer.Listed.{Listed}
use Rattle.explorer_model.specs.declared.answer.MonthLine.{MonthLine}
use Rattle.explorer_model.specs.declared.answer.MoveLine.{MoveLine}
use Rattle.explorer_model.specs.declared.archive.Outcome.{Outcome}
use Rattle.explorer_model.specs.declared.archive.Outcome.TheVariants as outcomes
use Rattle.explorer_model.specs.declared.fault.Refusal.{Refusal}
use Rattle.explorer_model.specs.declared.opening.Naming.{Naming}
use Rattle.explorer_model.specs.declared.opening.Opening.{Opening}
use Rattle.explorer_model.specs.declared.player.PlayerFound.{PlayerFound}
use Rattle.explorer_model.specs.declared.player.PlayerLine.{PlayerLine}
use Rattle.explorer_model.specs.Answer.{items_by, array_by, winner_value, listed_value, game_value, opening_value, move_value, move_items, month_value, answer_value}
use Rattle.explorer_model.specs.Players.{player_move_items, player_move_value, player_value}
use Rattle.explorer_model.specs.Replies.{refusal_value}

items_of-map : {A : Type 0} (value : A → Data) (xs : List A) → items_of (map value xs) ≡ items_by value xs
items_of-map value [] = refl
items_of-map value (x ∷ xs) = ap (λ (items : Items). item (value x) items) (items_of-map value xs)

take_whole : {A : Type 0} (n : ℕ) (xs : List A) → length xs ≤ n → take n xs ≡ xs
take_whole n xs all =
    let least : min n (length xs) ≡ length xs = omega (arith, all) in
    sym (take_min n xs) ∙ (ap (λ k. take k xs) least ∙ take-length xs)

-- one more of the list has its value
pub one_more : {A : Type 0} (value : A → Data) (values new : List Value) (one : Value) (xs : List A) (i : ℕ) (d : A) → map view values ≡ map value (take i xs)
    → i < length xs → view one ≡ value (get_or xs i d) → new ≡ values ++ one ∷ [] → map view new ≡ map value (take (i + 1) xs)
one_more value values new one xs i d before within is pushed =
    let more : take (i + 1) xs ≡ take i xs ++ get_or xs i d ∷ [] = take_more xs i d within in
    rw (pushed, more, map-append view values (one ∷ []), map-append value (take i xs) (get_or xs i d ∷ []), before, is) refl

-- all of the list have their values
pub all_valued : {A : Type 0} (value : A → Data) (values : Vec Value Global) (xs : List A) (n : ℕ) → length xs ≤ n → map view values.items ≡ map value (take n xs)
    → view (Array values) ≡ array_by value xs
all_valued value values xs n all are =
    view-Array values
    ∙ ap (λ (items : Items). array items) (ap items_of (are ∙ ap (λ ys. map value ys) (take_whole n xs all)) ∙ items_of-map value xs)

-- ---- lines of moves with their openings

module _ {A : Type 0} (value : A → Option Opening → Data) where
  -- the value of each line with its opening; a line that the openings do not reach has none
  abbrev pub values_with : List A → List (Option Opening) → List Data
  values_with [] openings = []
  values_with (line ∷ lines) [] = value line None ∷ values_with lines []
  values_with (line ∷ lines) (opening ∷ openings) = value line opening ∷ values_with lines openings

  pub length-with : (lines : List A) (openings : List (Option Opening)) → length (values_with lines openings) ≡ length lines
  length-with [] openings = refl
  length-with (line ∷ lines) [] = ap suc (length-with lines [])
  length-with (line ∷ lines) (opening ∷ openings) = ap suc (length-with lines openings)

  pub get_or-with : (lines : List A) (openings : List (Option Opening)) (i : ℕ) (d : A) (e : Data) → i < length lines
      → get_or (values_with lines openings) i e ≡ value (get_or lines i d) (get_or openings i None)
  get_or-with [] openings i d e within = absurd (omega (arith, within))
  get_or-with (line ∷ lines) [] zero d e within = refl
  get_or-with (line ∷ lines) [] (suc i) d e within = get_or-with lines [] i d e (omega (arith, within))
  get_or-with (line ∷ lines) (opening ∷ openings) zero d e within = refl
  get_or-with (line ∷ lines) (opening ∷ openings) (suc i) d e within = get_or-with lines openings i d e (omega (arith, within))

-- ---- no value is a float

no_float_in : {A : Type 0} (value : A → Data) → ((x : A) → has_float (value x) ≡ false) → (xs : List A) → items_have_float (items_by value xs) ≡ false
no_float_in value none [] = refl
no_float_in value none (x ∷ xs) = rw (none x) (no_float_in value none xs)

no_float-winner : (outcome : Outcome) → has_float (winner_value outcome) ≡ false
no_float-winner outcomes.White = refl
no_float-winner outcomes.Draw = refl
no_float-winner outcomes.Black = refl

no_float-listed : (game : Listed) → has_float (listed_value game) ≡ false
no_float-listed game = rw (no_float-winner game.classes.outcome) refl

no_float-game : (game : Option Listed) → has_float (game_value game) ≡ false
no_float-game None = refl
no_float-game (Some game) = no_float-listed game

pub no_float-opening : (opening : Option Opening) → has_float (opening_value opening) ≡ false
no_float-opening None = refl
no_float-opening (Some opening) = refl

no_float-move : (line : MoveLine) (opening : Option Opening) → has_float (move_value line opening) ≡ false
no_float-move line opening = rw (no_float-game line.game, no_float-opening opening) refl

pub no_float-month : (line : MonthLine) → has_float (month_value line) ≡ false
no_float-month line = refl

pub no_float-games : (games : List Listed) → items_have_float (items_by listed_value games) ≡ false
no_float-games games = no_float_in listed_value no_float-listed games

pub no_float-moves : (lines : List MoveLine) (openings : List (Option Opening)) → items_have_float (move_items lines openings) ≡ false
no_float-moves [] openings = refl
no_float-moves (line ∷ lines) [] = rw (no_float-move line None) (no_float-moves lines [])
no_float-moves (line ∷ lines) (opening ∷ openings) = rw (no_float-move line opening) (no_float-moves lines openings)

with_months : (found : Found) (naming : Naming) (history : Option (List MonthLine)) → has_float (answer_value (record found { history = history }) naming) ≡ false
with_months found naming None =
    rw (no_float-moves found.moves naming.moves, no_float-opening naming.whole, no_float_in listed_value no_float-listed found.recent, no_float_in listed_value no_float-listed found.top) refl
with_months found naming (Some months) =
    rw (no_float_in month_value no_float-month months, no_float-moves found.moves naming.moves, no_float-opening naming.whole, no_float_in listed_value no_float-listed found.recent, no_float_in listed_value no_float-listed found.top) refl

pub no_float-answer : (found : Found) (naming : Naming) → has_float (answer_value found naming) ≡ false
no_float-answer found naming = with_months found naming found.history

no_float-player_move : (line : PlayerLine) (opening : Option Opening) → has_float (player_move_value line opening) ≡ false
no_float-player_move line opening = rw (no_float-game line.game, no_float-opening opening) refl

no_float-player_moves : (lines : List PlayerLine) (openings : List (Option Opening)) → items_have_float (player_move_items lines openings) ≡ false
no_float-player_moves [] openings = refl
no_float-player_moves (line ∷ lines) [] = rw (no_float-player_move line None) (no_float-player_moves lines [])
no_float-player_moves (line ∷ lines) (opening ∷ openings) = rw (no_float-player_move line opening) (no_float-player_moves lines openings)

pub no_float-player : (found : PlayerFound) (naming : Naming) → has_float (player_value found naming) ≡ false
no_float-player found naming =
    rw (no_float-player_moves found.moves naming.moves, no_float-opening naming.whole, no_float_in listed_value no_float-listed found.recent) refl

pub no_float-refusal : (refusal : Refusal) → has_float (refusal_value refusal) ≡ false
no_float-refusal refusal = refl

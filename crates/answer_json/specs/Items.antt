-- Bridge: lines of moves as items of an array, each with its opening.
use Rattle.std.specs.Prelude.{◌≡◌, refl, List, [], ◌∷◌, Option, None}
use Rattle.std.proofs.Common.{ap}
use Rattle.serde_json.specs.Data.{Data, Items, no_items, item}
use Rattle.explorer_model.specs.declared.answer.MoveLine.{MoveLine}
use Rattle.explorer_model.specs.declared.opening.Opening.{Opening}
use Rattle.explorer_model.specs.declared.player.PlayerLine.{PlayerLine}
use Rattle.explorer_model.specs.Answer.{move_items, move_value}
use Rattle.explorer_model.specs.Players.{player_move_items, player_move_value}

-- the value of each line with its opening; a line that the openings do not reach has none
abbrev pub items_with : {A : Type 0} → (A → Option Opening → Data) → List A → List (Option Opening)
    → Items
items_with value [] openings = no_items
items_with value (line ∷ lines) [] = item (value line None) (items_with value lines [])
items_with value (line ∷ lines) (opening ∷ openings) =
    item (value line opening) (items_with value lines openings)

pub move_items-are : (lines : List MoveLine) (openings : List (Option Opening))
    → move_items lines openings ≡ items_with move_value lines openings
move_items-are [] openings = refl
move_items-are (line ∷ lines) [] =
    ap (λ (items : Items). item (move_value line None) items) (move_items-are lines [])
move_items-are (line ∷ lines) (opening ∷ openings) =
    ap (λ (items : Items). item (move_value line opening) items) (move_items-are lines openings)

pub player_move_items-are : (lines : List PlayerLine) (openings : List (Option Opening))
    → player_move_items lines openings ≡ items_with player_move_value lines openings
player_move_items-are [] openings = refl
player_move_items-are (line ∷ lines) [] =
    ap (λ (items : Items). item (player_move_value line None) items)
    (player_move_items-are lines [])
player_move_items-are (line ∷ lines) (opening ∷ openings) =
    ap (λ (items : Items). item (player_move_value line opening) items)
    (player_move_items-are lines openings)

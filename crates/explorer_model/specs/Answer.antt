-- Statement: the body of an answer: a JSON value with its members in the order of their bytes,
-- written without spaces.
use Rattle.std.specs.Prelude.{ℕ, ◌+◌, ◌/◌, ◌%◌, List, [], ◌∷◌, map, codes, Option, Some, None}
use Rattle.serde_json.specs.Data.{Data, null, number, unsigned, string, array, Items, no_items, item, object, Members, member, no_members}
use Rattle.serde_json.specs.Written.{compact_text}
use Rattle.explorer_model.specs.declared.answer.Found.{Found}
use Rattle.explorer_model.specs.declared.answer.Listed.{Listed}
use Rattle.explorer_model.specs.declared.answer.MonthLine.{MonthLine}
use Rattle.explorer_model.specs.declared.answer.MoveLine.{MoveLine}
use Rattle.explorer_model.specs.declared.archive.Mode.{Mode}
use Rattle.explorer_model.specs.declared.archive.Mode.TheVariants.{Rated, Casual}
use Rattle.explorer_model.specs.declared.archive.Month.{Month}
use Rattle.explorer_model.specs.declared.archive.Outcome.{Outcome}
use Rattle.explorer_model.specs.declared.archive.Outcome.TheVariants as outcomes
use Rattle.explorer_model.specs.declared.archive.Player.{Player}
use Rattle.explorer_model.specs.declared.archive.Speed.{Speed}
use Rattle.explorer_model.specs.declared.archive.Speed.TheVariants.{UltraBullet, Bullet, Blitz, Rapid, Classical, Correspondence}
use Rattle.explorer_model.specs.declared.opening.Naming.{Naming}
use Rattle.explorer_model.specs.declared.opening.Opening.{Opening}
use Rattle.explorer_model.specs.Uci.{uci_text}

abbrev pub count_value : ℕ → Data
count_value n = number (unsigned n)

abbrev pub items_by : {A : Type 0} → (A → Data) → List A → Items
items_by value [] = no_items
items_by value (x ∷ xs) = item (value x) (items_by value xs)

abbrev pub array_by : {A : Type 0} → (A → Data) → List A → Data
array_by value xs = array (items_by value xs)

-- ---- a game that is listed

abbrev pub speed_text : Speed → List ℕ
speed_text UltraBullet = codes "ultraBullet"
speed_text Bullet = codes "bullet"
speed_text Blitz = codes "blitz"
speed_text Rapid = codes "rapid"
speed_text Classical = codes "classical"
speed_text Correspondence = codes "correspondence"

abbrev pub mode_text : Mode → List ℕ
mode_text Rated = codes "rated"
mode_text Casual = codes "casual"

-- the last decimal digit
abbrev pub digit : ℕ → ℕ
digit n = 48 + n % 10

-- YYYY-MM
abbrev pub month_text : Month → List ℕ
month_text month =
    digit (month.year / 1000) ∷ digit (month.year / 100) ∷ digit (month.year / 10)
    ∷ digit month.year
    ∷ 45 ∷ digit (month.month / 10) ∷ digit month.month ∷ []

abbrev pub winner_value : Outcome → Data
winner_value outcomes.White = string (codes "white")
winner_value outcomes.Draw = null
winner_value outcomes.Black = string (codes "black")

abbrev pub player_value : Player → Data
player_value player = object
    (member (codes "name") (string player.name)
    (member (codes "rating") (count_value player.rating)
    no_members))

abbrev pub listed_value : Listed → Data
listed_value game = object
    (member (codes "black") (player_value game.classes.black)
    (member (codes "id") (string game.classes.id.bytes)
    (member (codes "mode") (string (mode_text game.classes.mode))
    (member (codes "month") (string (month_text game.classes.month))
    (member (codes "speed") (string (speed_text game.classes.speed))
    (member (codes "uci") (string (uci_text game.next))
    (member (codes "white") (player_value game.classes.white)
    (member (codes "winner") (winner_value game.classes.outcome)
    (member (codes "year") (count_value game.classes.month.year)
    no_members)))))))))

abbrev pub game_value : Option Listed → Data
game_value None = null
game_value (Some game) = listed_value game

-- ---- openings

-- no opening is known
abbrev pub unnamed : List MoveLine → Naming
unnamed lines = record { whole = None; moves = map (λ line. None) lines }

abbrev pub opening_value : Option Opening → Data
opening_value None = null
opening_value (Some opening) = object
    (member (codes "eco") (string opening.eco)
    (member (codes "name") (string opening.name)
    no_members))

-- ---- a move and a month

abbrev pub move_value : MoveLine → Option Opening → Data
move_value line opening = object
    (member (codes "averageRating") (count_value line.average)
    (member (codes "black") (count_value line.totals.black)
    (member (codes "draws") (count_value line.totals.draws)
    (member (codes "game") (game_value line.game)
    (member (codes "opening") (opening_value opening)
    (member (codes "san") (string line.san)
    (member (codes "uci") (string (uci_text line.next))
    (member (codes "white") (count_value line.totals.white)
    no_members))))))))

abbrev pub month_value : MonthLine → Data
month_value line = object
    (member (codes "black") (count_value line.totals.black)
    (member (codes "draws") (count_value line.totals.draws)
    (member (codes "month") (string (month_text line.month))
    (member (codes "white") (count_value line.totals.white)
    no_members))))

-- ---- the answer

-- the member `history`, where it is there, before the others
abbrev pub with_history : Option (List MonthLine) → Members → Members
with_history None members = members
with_history (Some months) members = member (codes "history") (array_by month_value months) members

-- each move with its opening; a move that the naming does not reach has none
abbrev pub move_items : List MoveLine → List (Option Opening) → Items
move_items [] openings = no_items
move_items (line ∷ lines) [] = item (move_value line None) (move_items lines [])
move_items (line ∷ lines) (opening ∷ openings) =
    item (move_value line opening) (move_items lines openings)

abbrev pub answer_value : Found → Naming → Data
answer_value found naming = object
    (member (codes "black") (count_value found.totals.black)
    (member (codes "draws") (count_value found.totals.draws)
    (with_history found.history
    (member (codes "moves") (array (move_items found.moves naming.moves))
    (member (codes "opening") (opening_value naming.whole)
    (member (codes "recentGames") (array_by listed_value found.recent)
    (member (codes "topGames") (array_by listed_value found.top)
    (member (codes "white") (count_value found.totals.white)
    no_members))))))))

-- the bytes of the answer, with the openings that are known
unfoldable pub named_body : Found → Naming → List ℕ
named_body found naming = compact_text (answer_value found naming)

-- the bytes of the answer where no opening is known
abbrev pub answer_body : Found → List ℕ
answer_body found = named_body found (unnamed found.moves)

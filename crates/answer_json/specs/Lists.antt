-- Bridge: the members of an answer that have its lists, as they are written.
use Rattle.std.specs.Prelude.{ℕ, List, [], ◌++◌, Option, None, Some, codes}
use Rattle.serde_json.specs.Data.{array}
use Rattle.serde_json.specs.Written.{compact_text}
use Rattle.explorer_model.specs.declared.answer.Found.{Found}
use Rattle.explorer_model.specs.declared.answer.MonthLine.{MonthLine}
use Rattle.explorer_model.specs.declared.opening.Naming.{Naming}
use Rattle.explorer_model.specs.Answer.{array_by, listed_value, month_value, move_items, opening_value}

-- the months behind a comma, where they are there
abbrev pub history_text : Option (List MonthLine) → List ℕ
history_text None = []
history_text (Some months) = codes ",\"history\":" ++ compact_text (array_by month_value months)

-- the moves, the opening of the whole, the recent games and the top games, each behind a comma
abbrev pub lists_text : Found → Naming → List ℕ
lists_text found naming =
    codes ",\"moves\":" ++ compact_text (array (move_items found.moves naming.moves))
    ++ codes ",\"opening\":" ++ compact_text (opening_value naming.whole)
    ++ codes ",\"recentGames\":" ++ compact_text (array_by listed_value found.recent)
    ++ codes ",\"topGames\":" ++ compact_text (array_by listed_value found.top)

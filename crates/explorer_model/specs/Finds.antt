-- Statement: what is found for a query in a journal: the recount of its games, replayed from their
-- texts.
use Rattle.std.specs.Prelude.{◌≡◌, Bool, true, false, List, map, length, Option, Some, None}
use Rattle.std.specs.List.{AllZip}
use Rattle.explorer_model.specs.Best.{best}
use Rattle.explorer_model.specs.declared.answer.Found.{Found}
use Rattle.explorer_model.specs.declared.answer.MonthLine.{MonthLine}
use Rattle.explorer_model.specs.declared.answer.MoveLine.{MoveLine}
use Rattle.explorer_model.specs.declared.archive.Batch.{Batch}
use Rattle.explorer_model.specs.declared.archive.Game.{Game}
use Rattle.explorer_model.specs.declared.chess.Move.{Move}
use Rattle.explorer_model.specs.declared.archive.Classes.{Classes}
use Rattle.explorer_model.specs.declared.query.Query.{Query}
use Rattle.explorer_model.specs.San.{SanText}
use Rattle.explorer_model.specs.Visits.{GameAt, IsGameAt, AreGamesOf}
use Rattle.explorer_model.specs.Counting.{passes, rating_of, counts, any_next, totals_of, move_totals, average_of, game_of_move, first_moves, games_by, before_by_rating, before_by_month, months_counted, before_in_time, month_line}

-- one entry for each month with a counted game, ascending, where the query asks for them
abbrev pub history_of : Bool → (Classes → Bool) → List GameAt → Option (List MonthLine)
history_of false wanted games = None
history_of true wanted games =
    let months = months_counted wanted games in
    Some (map (month_line wanted games) (best before_in_time (length months) months))

-- the line of a move
pub record IsLineOf (query : Query) (games : List GameAt) (m : Move)
    (line : MoveLine) : Type 0 where
  pub next : line.next ≡ m
  pub san : SanText query.at m line.san
  pub average : line.average ≡ average_of (rating_of query.at.turn) m (passes query.filter) games
  pub totals : line.totals ≡ move_totals (passes query.filter) games m
  pub game : line.game ≡ game_of_move m (passes query.filter) games

-- the recount of games, as they stand to the position asked for
pub record IsRecount (query : Query) (games : List GameAt) (found : Found) : Type 0 where
  pub totals : found.totals ≡ totals_of (counts any_next (passes query.filter)) games
  pub moves : AllZip (IsLineOf query games)
      (first_moves query.moves (passes query.filter) games) found.moves
  pub top : found.top ≡ games_by before_by_rating query.top (passes query.filter) games
  pub recent : found.recent ≡ games_by before_by_month query.recent (passes query.filter) games
  pub history : found.history ≡ history_of query.history (passes query.filter) games

-- the answer to the query over games, in the order of their numbers
pub record IsFoundOf (games : List Game) (query : Query) (found : Found) : Type 0 where
  pub games_at : List GameAt
  pub are_games_at : AllZip (IsGameAt query.at) games games_at
  pub recount : IsRecount query games_at found

-- the answer to the query over the games of a journal
pub record IsFound (journal : List Batch) (query : Query) (found : Found) : Type 0 where
  pub games : List Game
  pub are_games : AreGamesOf journal games
  pub answer : IsFoundOf games query found

-- Bridge: the line of a move, made of rows.
use Rattle.std.specs.Prelude.{◌≡◌, ◌/◌, List, map, cond, Some, None}
use Rattle.std.specs.List.{AllZip}
use Rattle.best_lists.specs.Ranking.{before_by_rating, before_by_month}
use Rattle.explorer_model.specs.Best.{best}
use Rattle.explorer_model.specs.declared.answer.Found.{Found}
use Rattle.explorer_model.specs.declared.answer.MoveLine.{MoveLine}
use Rattle.explorer_model.specs.declared.archive.Classes.{Classes}
use Rattle.explorer_model.specs.declared.chess.Move.{Move}
use Rattle.explorer_model.specs.declared.chess.Position.{Position}
use Rattle.explorer_model.specs.declared.query.Query.{Query}
use Rattle.explorer_model.specs.Counting.{total}
use Rattle.explorer_model.specs.San.{SanText}
use Rattle.lookup.specs.Listing.{AreListed}
use Rattle.row_sums.specs.GroupSums.{shown_by}
use Rattle.row_sums.specs.Hits.{NumberedRow}
use Rattle.row_sums.specs.Listing.{shown_game}
use Rattle.row_sums.specs.MoveSums.{sum_as}
use Rattle.row_sums.specs.Sums.{any_row, totals_where, ratings_where, entries_where, moves_in, before_by_total, history_in, plays}
use Rattle.row_sums.specs.declared.moves.MoveSum.{MoveSum}

-- the line of a move, with its game by the number that the rows show
pub record IsLineMade (at : Position) (games : List Classes) (hits : List NumberedRow) (m : Move)
    (line : MoveLine) : Type 0 where
  pub next : line.next ≡ m
  pub san : SanText at m line.san
  pub average : line.average ≡ ratings_where hits (plays m) / total (totals_where hits (plays m))
  pub totals : line.totals ≡ totals_where hits (plays m)
  pub game : line.game
      ≡ shown_game games m (shown_by (entries_where hits (plays m) (λ row. row.top)))

-- what is put together of the rows that are counted: their totals, the first moves, the best and
-- the latest of the games, and the months
pub record IsPutTogether (query : Query) (games : List Classes) (hits : List NumberedRow)
    (found : Found) : Type 0 where
  pub totals : found.totals ≡ totals_where hits any_row
  pub lines : AllZip (λ (sum : MoveSum) line. IsLineMade query.at games hits sum.next line)
      (map (sum_as hits) (best (before_by_total hits) query.moves (moves_in hits))) found.moves
  pub top : AreListed before_by_rating (λ row. row.top) games hits query.top found.top
  pub recent : AreListed before_by_month (λ row. row.recent) games hits query.recent found.recent
  pub history : found.history ≡ cond query.history (Some (history_in hits)) None

-- Bridge: an answer that is put together of rows.
use Rattle.std.specs.Prelude.{◌≡◌, ◌/◌, ℕ, ◌*◌, ◌<◌, ◌≤◌, List, map, filter_map, take}
use Rattle.std.specs.List.{AllZip}
use Rattle.best_lists.specs.Ranking.{before_by_month}
use Rattle.best_lists.specs.declared.entry.Entry.{Entry}
use Rattle.explorer_model.specs.Best.{best}
use Rattle.explorer_model.specs.Counting.{total}
use Rattle.explorer_model.specs.San.{SanText}
use Rattle.explorer_model.specs.declared.answer.Listed.{Listed}
use Rattle.explorer_model.specs.declared.archive.Classes.{Classes}
use Rattle.explorer_model.specs.declared.chess.Move.{Move}
use Rattle.explorer_model.specs.declared.chess.Position.{Position}
use Rattle.explorer_model.specs.declared.player.PlayerFound.{PlayerFound}
use Rattle.explorer_model.specs.declared.player.PlayerLine.{PlayerLine}
use Rattle.explorer_model.specs.declared.player.PlayerQuery.{PlayerQuery}
use Rattle.row_sums.specs.Hits.{NumberedRow, look_limit}
use Rattle.row_sums.specs.Listing.{AreBestOf, listed_where, shown_game}
use Rattle.row_sums.specs.MoveSums.{sum_as}
use Rattle.row_sums.specs.Sums.{any_row, before_by_total, moves_in, totals_where}
use Rattle.row_sums.specs.declared.moves.MoveSum.{MoveSum}

-- the move has games, no more than are counted, and a mean rating below 2^16
pub record HasMean (sum : MoveSum) : Type 0 where
  pub played : 0 < total sum.totals
  pub few : total sum.totals ≤ look_limit
  pub rated : sum.ratings ≤ 65535 * total sum.totals

-- the line of a move, of what its rows add up to
pub record IsLineFrom (at : Position) (games : List Classes) (sum : MoveSum) (line : PlayerLine)
    : Type 0 where
  pub next : line.next ≡ sum.next
  pub san : SanText at sum.next line.san
  pub average : line.average ≡ sum.ratings / total sum.totals
  pub totals : line.totals ≡ sum.totals
  pub game : line.game ≡ shown_game games sum.next sum.shown

-- the moves that are listed of rows
abbrev pub moves_listed : PlayerQuery → List NumberedRow → List Move
moves_listed q hits = best (before_by_total hits) q.query.moves (moves_in hits)

-- the latest games of rows, found by their numbers in some of these rows
pub record AreLatestOf (games : List Classes) (hits : List NumberedRow) (most : ℕ)
    (listed : List Listed) : Type 0 where
  pub rows : List NumberedRow
  pub entries : List Entry
  pub are_best : AreBestOf before_by_month (λ row. row.recent) hits hits rows entries
  pub are_listed : listed ≡ filter_map
      (λ entry. listed_where (λ row. row.recent) games rows entry.number) (take most entries)

-- what is put together of rows: their totals, the first moves, and the latest games
pub record IsMadeOf (q : PlayerQuery) (games : List Classes) (hits : List NumberedRow)
    (found : PlayerFound) : Type 0 where
  pub totals : found.totals ≡ totals_where hits any_row
  pub lines : AllZip (IsLineFrom q.query.at games) (map (sum_as hits) (moves_listed q hits))
      found.moves
  pub recent : AreLatestOf games hits q.query.recent found.recent

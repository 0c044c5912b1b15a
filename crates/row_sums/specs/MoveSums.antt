-- Bridge: moves with what their rows add up to, and how such lines are listed.
use Rattle.std.specs.Prelude.{◌*◌, ◌<◌, ◌≤◌, Bool, nat_lt, ◌==◌, ◌||◌, ◌&&◌, List}
use Rattle.std.specs.Ordering.{nat_cmp, is_lt}
use Rattle.std.specs.Cmp.Lexicographic.{slice_cmp}
use Rattle.explorer_model.specs.declared.answer.MonthLine.{MonthLine}
use Rattle.explorer_model.specs.declared.chess.Move.{Move}
use Rattle.explorer_model.specs.Counting.{total, before_in_time}
use Rattle.explorer_model.specs.Uci.{uci_text}
use Rattle.row_sums.specs.declared.moves.MoveSum.{MoveSum}
use Rattle.row_sums.specs.Hits.{NumberedRow, look_limit}
use Rattle.row_sums.specs.GroupSums.{shown_by}
use Rattle.row_sums.specs.Sums.{plays, totals_where, ratings_where, entries_where}

-- a move, with the sums of the rows in whose games it is played
abbrev pub sum_as : List NumberedRow → Move → MoveSum
sum_as hits next = record {
  next = next;
  totals = totals_where hits (plays next);
  ratings = ratings_where hits (plays next);
  shown = shown_by (entries_where hits (plays next) (λ row. row.top));
}

-- the move has games, no more than are counted, and the mean rating of its players is below 2^16
pub record IsAveraged (hits : List NumberedRow) (m : Move) : Type 0 where
  pub played : 0 < total (totals_where hits (plays m))
  pub few : total (totals_where hits (plays m)) ≤ look_limit
  pub rated : ratings_where hits (plays m) ≤ 65535 * total (totals_where hits (plays m))

-- the greater total first, then the lesser text of UCI
abbrev pub before_as_sum : MoveSum → MoveSum → Bool
before_as_sum a b =
    nat_lt (total b.totals) (total a.totals)
    || ((total a.totals == total b.totals)
    && is_lt (slice_cmp nat_cmp (uci_text a.next) (uci_text b.next)))

-- ascending in time
abbrev pub before_as_line : MonthLine → MonthLine → Bool
before_as_line a b = before_in_time a.month b.month

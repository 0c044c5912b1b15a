-- Bridge: the lines of months and of moves, with the games of one row more.
use Rattle.std.specs.Prelude.{ℕ, ◌+◌, ◌*◌, ◌<◌, ◌^◌, List, [], ◌∷◌, map}
use Rattle.best_lists.specs.Entry.{moved_by}
use Rattle.best_lists.specs.declared.entry.Entry.{Entry}
use Rattle.explorer_model.specs.Counting.{promotion_number}
use Rattle.explorer_model.specs.declared.answer.MonthLine.{MonthLine}
use Rattle.explorer_model.specs.declared.answer.Totals.{Totals}
use Rattle.explorer_model.specs.declared.archive.Month.{Month}
use Rattle.explorer_model.specs.declared.chess.Move.{Move}
use Rattle.row_sums.specs.declared.moves.MoveSum.{MoveSum}
use Rattle.row_sums.specs.declared.moves.Shown.{Shown}
use Rattle.row_sums.specs.declared.moves.Shown.TheVariants.{Nothing, One, Several}
use Rattle.row_sums.specs.Hits.{NumberedRow}
use Rattle.tally_rows.specs.declared.row.Row.{Row}

-- ---- totals

abbrev pub no_totals : Totals
no_totals = record { white = 0; draws = 0; black = 0 }

abbrev pub totals_with : Row → Totals → Totals
totals_with row totals = record {
  white = totals.white + row.white;
  draws = totals.draws + row.draws;
  black = totals.black + row.black;
}

-- the totals with the games of the row fit their type
pub record HasRoom (totals : Totals) (row : Row) : Type 0 where
  pub white : totals.white + row.white < 2 ^ 64
  pub draws : totals.draws + row.draws < 2 ^ 64
  pub black : totals.black + row.black < 2 ^ 64

-- ---- months

abbrev pub no_line : Month → MonthLine
no_line month = record { month = month; totals = no_totals }

abbrev pub line_with : Row → MonthLine → MonthLine
line_with row line = record { month = line.month; totals = totals_with row line.totals }

-- ---- moves

-- a number that tells a move apart from all others
abbrev pub move_number : Move → ℕ
move_number m = 4096 * promotion_number m.promotion + 64 * m.from.index + m.to.index

-- what entries show: no game, one, or more
abbrev pub shown_by : List Entry → Shown
shown_by [] = Nothing
shown_by (entry ∷ []) = One entry
shown_by _ = Several

-- with more entries
abbrev pub shown_with : Shown → List Entry → Shown
shown_with shown [] = shown
shown_with Nothing (entry ∷ []) = One entry
shown_with _ _ = Several

abbrev pub no_sum : Move → MoveSum
no_sum next = record { next = next; totals = no_totals; ratings = 0; shown = Nothing }

abbrev pub sum_with : NumberedRow → MoveSum → MoveSum
sum_with hit sum = record {
  next = sum.next;
  totals = totals_with hit.row sum.totals;
  ratings = sum.ratings + hit.row.ratings;
  shown = shown_with sum.shown (map (moved_by hit.first) hit.row.top);
}

pub record HasRoomFor (sum : MoveSum) (hit : NumberedRow) : Type 0 where
  pub totals : HasRoom sum.totals hit.row
  pub ratings : sum.ratings + hit.row.ratings < 2 ^ 64

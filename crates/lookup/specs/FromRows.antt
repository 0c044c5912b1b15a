-- Bridge: an answer that is made from rows.
use Rattle.std.specs.Prelude.{◌≡◌, ◌/◌, ◌≤◌, ℕ, Bool, true, false, List, map, take, length, Option, Some, None, option_and_then}
use Rattle.std.specs.List.{AllZip}
use Rattle.explorer_model.specs.Best.{best}
use Rattle.best_lists.specs.Ranking.{before_by_rating, before_by_month}
use Rattle.explorer_model.specs.declared.answer.Found.{Found}
use Rattle.explorer_model.specs.declared.answer.MonthLine.{MonthLine}
use Rattle.explorer_model.specs.declared.answer.MoveLine.{MoveLine}
use Rattle.explorer_model.specs.declared.archive.Game.{Game}
use Rattle.explorer_model.specs.declared.chess.Move.{Move}
use Rattle.explorer_model.specs.declared.query.Query.{Query}
use Rattle.explorer_model.specs.Counting.{any_next, is_move, total, before_in_time}
use Rattle.explorer_model.specs.San.{SanText}
use Rattle.explorer_model.specs.Spans.{Span}
use Rattle.explorer_model.specs.Tidy.{IsTidyKey}
use Rattle.explorer_model.specs.Visits.{IsTextOf, texts_of}
use Rattle.tally_rows.specs.declared.row.Row.{Row}
use Rattle.tally_rows.specs.Cover.{meets, listing, only_entry, rows_totals, rows_ratings, rows_moves, rows_before, rows_months, rows_month_line}
use Rattle.tally_rows.specs.Recount.{all_of, cover_lists}
use Rattle.tally_rows.specs.Tallied.{Tallied}
use Rattle.tally_rows.specs.Tally.{IsTrackOf}
use Rattle.tally_rows.specs.Track.{Track}

-- the texts of each span
abbrev pub texts_in : List Span → List (List (List ℕ))
texts_in spans = map (λ span. texts_of span.batches) spans

-- for each span of batches the games of its texts, the tracks of these games, and the rows that are tallied for them
pub record AreTallied (spans : List Span) (games : List (List Game)) (cover : List (List Track))
    (tallies : List (List Row)) : Type 0 where
  pub are_games : AllZip (AllZip IsTextOf) (texts_in spans) games
  pub are_tracks : AllZip (AllZip IsTrackOf) games cover
  pub tallied : AllZip Tallied cover tallies

-- what is asked can be answered from rows
pub record IsAnswerable (query : Query) (key : List ℕ) : Type 0 where
  pub board : length query.at.squares ≡ 64
  pub tidy : IsTidyKey query.at key
  pub top : query.top ≤ 4
  pub recent : query.recent ≤ 4

module _ (query : Query) (key : List ℕ) (cover : List (List Track))
    (tallies : List (List Row)) where
  -- the line of a move
  pub record IsRowsLine (m : Move) (line : MoveLine) : Type 0 where
    pub next : line.next ≡ m
    pub san : SanText query.at m line.san
    pub average : line.average ≡ rows_ratings key tallies (meets query.filter (is_move m)) / total
        (rows_totals key tallies (meets query.filter (is_move m)))
    pub totals : line.totals ≡ rows_totals key tallies (meets query.filter (is_move m))
    pub game : line.game ≡ option_and_then (listing key (all_of cover))
        (only_entry (best before_by_rating 4
        (cover_lists key (meets query.filter (is_move m)) (λ row. row.top) 0 cover tallies)))

  -- the months, where they are asked for
  abbrev pub rows_history : Bool → Option (List MonthLine)
  rows_history false = None
  rows_history true =
      let months = rows_months key tallies query.filter in
      Some (map (rows_month_line key tallies query.filter)
      (best before_in_time (length months) months))

  -- sums of the rows that pass the filter, and their best lists joined
  pub record IsFromRows (found : Found) : Type 0 where
    pub totals : found.totals ≡ rows_totals key tallies (meets query.filter any_next)
    pub moves : AllZip IsRowsLine
        (best (rows_before key tallies query.filter) query.moves
        (rows_moves key tallies query.filter)) found.moves
    pub top : map Some found.top ≡ map (listing key (all_of cover))
        (take query.top
        (best before_by_rating 4
        (cover_lists key (meets query.filter any_next) (λ row. row.top) 0 cover tallies)))
    pub recent : map Some found.recent ≡ map (listing key (all_of cover))
        (take query.recent
        (best before_by_month 4
        (cover_lists key (meets query.filter any_next) (λ row. row.recent) 0 cover tallies)))
    pub history : found.history ≡ rows_history query.history

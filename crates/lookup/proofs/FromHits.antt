-- An answer that is made from hits is one that is made from the rows of all parts.
use Rattle.std.proofs.Common.{◌≡◌, ◌/◌, ℕ, Bool, true, false, cond, List, [], ◌∷◌, map, take, None, Some, refl, sym, ap, subst, ◌∙◌}
use Rattle.std.specs.Prelude.{option_and_then}
use Rattle.std.specs.List.{AllByRecursion, AllZip}
use Rattle.explorer_model.specs.Best.{best}
use Rattle.explorer_model.specs.declared.answer.Found.{Found}
use Rattle.explorer_model.specs.declared.answer.MoveLine.{MoveLine}
use Rattle.explorer_model.specs.declared.chess.Move.{Move}
use Rattle.explorer_model.specs.declared.query.Query.{Query}
use Rattle.explorer_model.specs.Counting.{any_next, is_move, total}
use Rattle.explorer_model.specs.San.{SanText}
use Rattle.tally_rows.specs.Cover.{listing, only_entry}
use Rattle.tally_rows.specs.Recount.{all_of}
use Rattle.lookup.specs.Parts.{Part, IsPart}
use Rattle.lookup.specs.FromRows.{IsRowsLine, rows_history, IsFromRows}
use Rattle.row_sums.specs.Hits.{NumberedRow}
use Rattle.row_sums.specs.Sums.{any_row, plays, totals_where, ratings_where, top_where, recent_where, moves_in, before_by_total, history_in}
use Rattle.lookup.specs.Parts.{tracks_in}
use Rattle.lookup.proofs.Bridges.{rows_in, hits_of, totals-are, ratings-are, top-is, recent-is, first-moves-are, history-is}

module _ (query : Query) (key : List ℕ) (parts : List Part) (each : AllByRecursion IsPart parts) where
  -- the rows that the filter takes
  abbrev hits : List NumberedRow
  hits = hits_of key query.filter parts

  -- the line of a move
  pub record IsHitsLine (m : Move) (line : MoveLine) : Type 0 where
    pub next : line.next ≡ m
    pub san : SanText query.at m line.san
    pub average : line.average ≡ ratings_where hits (plays m) / total (totals_where hits (plays m))
    pub totals : line.totals ≡ totals_where hits (plays m)
    pub game : line.game ≡ option_and_then (listing key (all_of (tracks_in parts each))) (only_entry (top_where hits (plays m)))

  -- the answer
  pub record IsFromHits (found : Found) : Type 0 where
    pub totals : found.totals ≡ totals_where hits any_row
    pub moves : AllZip IsHitsLine (best (before_by_total hits) query.moves (moves_in hits)) found.moves
    pub top : map Some found.top ≡ map (listing key (all_of (tracks_in parts each))) (take query.top (top_where hits any_row))
    pub recent : map Some found.recent ≡ map (listing key (all_of (tracks_in parts each))) (take query.recent (recent_where hits any_row))
    pub history : found.history ≡ cond query.history (Some (history_in hits)) None

  line-from-rows : (m : Move) (line : MoveLine) → IsHitsLine m line → IsRowsLine query key (tracks_in parts each) (rows_in parts) m line
  line-from-rows m line is = record {
    next = is.next;
    san = is.san;
    average = is.average ∙ (λ i. sym (ratings-are key query.filter parts (is_move m)) i / total (sym (totals-are key query.filter parts (is_move m)) i));
    totals = is.totals ∙ sym (totals-are key query.filter parts (is_move m));
    game = is.game ∙ ap (λ l. option_and_then (listing key (all_of (tracks_in parts each))) (only_entry l)) (sym (top-is key query.filter parts each (is_move m)));
  }

  lines-from-rows : (ms : List Move) (lines : List MoveLine) → AllZip IsHitsLine ms lines
      → AllZip (IsRowsLine query key (tracks_in parts each) (rows_in parts)) ms lines
  lines-from-rows [] [] zip = tt
  lines-from-rows [] (line ∷ lines) zip = absurd zip
  lines-from-rows (m ∷ ms) [] zip = absurd zip
  lines-from-rows (m ∷ ms) (line ∷ lines) zip = (line-from-rows m line zip.0, lines-from-rows ms lines zip.1)

  history-by : (asked : Bool) → cond asked (Some (history_in hits)) None ≡ rows_history query key (tracks_in parts each) (rows_in parts) asked
  history-by true = ap Some (sym (history-is key query.filter parts))
  history-by false = refl

  pub from-hits : (found : Found) → IsFromHits found → IsFromRows query key (tracks_in parts each) (rows_in parts) found
  from-hits found is =
      let R = IsRowsLine query key (tracks_in parts each) (rows_in parts) in
      record {
        totals = is.totals ∙ sym (totals-are key query.filter parts any_next);
        moves = subst (λ ms. AllZip R ms found.moves) (sym (first-moves-are key query.filter parts query.moves))
            (lines-from-rows (best (before_by_total hits) query.moves (moves_in hits)) found.moves is.moves);
        top = is.top ∙ ap (λ l. map (listing key (all_of (tracks_in parts each))) (take query.top l)) (sym (top-is key query.filter parts each any_next));
        recent = is.recent ∙ ap (λ l. map (listing key (all_of (tracks_in parts each))) (take query.recent l)) (sym (recent-is key query.filter parts each any_next));
        history = is.history ∙ history-by query.history;
      }

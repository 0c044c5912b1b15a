-- What is put together of hits is an answer that is made from them.
use Rattle.std.proofs.Common.{◌≡◌, ℕ, Bool, List, [], ◌∷◌, map, take, refl, subst, ◌∙◌}
use Rattle.std.specs.List.{AllByRecursion, AllZip, Contains}
use Rattle.std.proofs.lemmas.List.Elements.{All-take}
use Rattle.best_lists.specs.declared.entry.Entry.{Entry}
use Rattle.best_lists.specs.Ranking.{before_by_rating, before_by_month}
use Rattle.explorer_model.specs.Best.{best}
use Rattle.explorer_model.specs.declared.answer.Found.{Found}
use Rattle.explorer_model.specs.declared.answer.MoveLine.{MoveLine}
use Rattle.explorer_model.specs.declared.archive.Classes.{Classes}
use Rattle.explorer_model.specs.declared.chess.Move.{Move}
use Rattle.explorer_model.specs.declared.query.Query.{Query}
use Rattle.explorer_model.specs.Counting.{any_next}
use Rattle.row_sums.specs.declared.moves.MoveSum.{MoveSum}
use Rattle.lookup.specs.FromRows.{IsFromRows}
use Rattle.row_sums.specs.Hits.{NumberedRow}
use Rattle.lookup.specs.Lines.{IsLineMade, IsPutTogether}
use Rattle.lookup.specs.Listing.{all_classes}
use Rattle.row_sums.specs.MoveSums.{sum_as}
use Rattle.row_sums.specs.Sums.{any_row, entries_where, moves_in, before_by_total}
use Rattle.lookup.specs.Parts.{tracks_in}
use Rattle.lookup.proofs.Bridges.{rows_in, hits_of}
use Rattle.lookup.proofs.FromHits.{IsHitsLine, IsFromHits, from-hits}
use Rattle.lookup.proofs.Listings.{AreEntriesOf, listed-of, recent-lists, top-lists}
use Rattle.lookup.proofs.OnlyGames.{only-game}
use Rattle.row_sums.proofs.ListedRows.{best-stand}
use Rattle.tally_rows.specs.Cover.{meets}
use Rattle.tally_rows.specs.declared.row.Row.{Row}
use Rattle.lookup.specs.Parts.{Part, IsPart}
use Rattle.tally_rows.proofs.Members.{All-from_IsIn, Contains-IsIn}

-- ---- the answer

module _ (query : Query) (bytes : List ℕ) (parts : List Part) (each : AllByRecursion IsPart parts) where
  abbrev own_hits : List NumberedRow
  own_hits = hits_of bytes query.filter parts

  lines-made : (moves : List Move) (lines : List MoveLine)
      → AllZip (λ (sum : MoveSum) line. IsLineMade query.at (all_classes parts) own_hits sum.next line) (map (sum_as own_hits) moves) lines
      → AllZip (IsHitsLine query bytes parts each) moves lines
  lines-made [] [] zip = tt
  lines-made [] (line ∷ lines) zip = absurd zip
  lines-made (m ∷ moves) [] zip = absurd zip
  lines-made (m ∷ moves) (line ∷ lines) zip =
      let made : IsLineMade query.at (all_classes parts) own_hits m line = zip.0 in (
        record {
          next = made.next;
          san = made.san;
          average = made.average;
          totals = made.totals;
          game = made.game ∙ only-game bytes (meets query.filter any_next) parts each m own_hits refl;
        },
        lines-made moves lines zip.1,
      )

  entries-of : (list : Row → List Entry) (before : Entry → Entry → Bool) (n : ℕ)
      → AreEntriesOf list bytes query.filter parts own_hits any_row (take n (best before 4 (entries_where own_hits any_row list)))
  entries-of list before n = record {
    rows = All-from_IsIn (Contains own_hits) own_hits (λ hit m. Contains-IsIn own_hits hit m);
    stand = All-take (λ entry. Contains (entries_where own_hits any_row list) entry) n (best before 4 (entries_where own_hits any_row list)) (best-stand before 4 (entries_where own_hits any_row list));
  }

  put-own : (found : Found) → IsPutTogether query (all_classes parts) own_hits found → IsFromHits query bytes parts each found
  put-own found is = record {
    totals = is.totals;
    moves = lines-made (best (before_by_total own_hits) query.moves (moves_in own_hits)) found.moves is.lines;
    top = listed-of (λ row. row.top) top-lists before_by_rating (all_classes parts) parts own_hits query.top found.top refl is.top
        bytes query.filter any_row each (entries-of (λ row. row.top) before_by_rating query.top);
    recent = listed-of (λ row. row.recent) recent-lists before_by_month (all_classes parts) parts own_hits query.recent found.recent refl is.recent
        bytes query.filter any_row each (entries-of (λ row. row.recent) before_by_month query.recent);
    history = is.history;
  }

  pub put-together : (games : List Classes) (hits : List NumberedRow) (found : Found) → games ≡ all_classes parts → hits ≡ own_hits
      → IsPutTogether query games hits found
      → IsFromRows query bytes (tracks_in parts each) (rows_in parts) found
  put-together games hits found known rows is =
      let P : List NumberedRow → Type 0 = λ h. IsPutTogether query (all_classes parts) h found in
      let G : List Classes → Type 0 = λ of. IsPutTogether query of hits found in
      from-hits query bytes parts each found (put-own found (subst P rows (subst G known is)))

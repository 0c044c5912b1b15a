-- Rows that list the best games so far, with one row more.
use Rattle.std.proofs.Common.{◌≡◌, ℕ, ◌+◌, ◌<◌, Bool, List, [], ◌∷◌, ◌++◌, length, take, get_or, map, refl, sym, ap, ◌∙◌, subst}
use Rattle.std.specs.List.{All, Contains}
use Rattle.std.proofs.lemmas.List.{map-append}
use Rattle.std.proofs.lemmas.List.Elements.{All-nil, All-push, Contains-get_or}
use Rattle.best_lists.specs.Entry.{moved_by}
use Rattle.best_lists.specs.declared.entry.Entry.{Entry}
use Rattle.best_lists.proofs.BestLaws.{best-nil}
use Rattle.explorer_model.specs.Best.{best, IsStrictTotalOrder}
use Rattle.row_sums.specs.declared.hits.Hit.{Hit}
use Rattle.row_sums.specs.Hits.{NumberedRow, hit_as}
use Rattle.row_sums.specs.Listing.{AreBestOf}
use Rattle.row_sums.specs.Sums.{any_row, entries_where}
use Rattle.row_sums.proofs.Rows.{best-more, best-taken, entries-none, hit-at, hit-within}
use Rattle.tally_rows.specs.declared.row.Row.{Row}

pub rows-none : (before : Entry → Entry → Bool) (list : Row → List Entry) (all rows : List NumberedRow) (entries : List Entry)
    → rows ≡ [] → entries ≡ [] → AreBestOf before list all [] rows entries
rows-none before list all rows entries no_row none =
    let nothing : entries ≡ best before 4 (entries_where [] any_row list) =
    none ∙ sym (ap (best before 4) (entries-none any_row list) ∙ best-nil before 4) in
    record {
      of_all = nothing;
      of_rows = nothing ∙ ap (λ l. best before 4 (entries_where l any_row list)) (sym no_row);
      among = subst (All (Contains all)) (sym no_row) (All-nil (Contains all));
    }

module _ {before : Entry → Entry → Bool} (order : IsStrictTotalOrder before) (list : Row → List Entry)
    (hits : List Hit) (i : ℕ) (hit : Hit) (within : i < length hits) (is : hit ≡ get_or hits i hit) where
  -- the list stays as it is
  pub rows-same : (rows : List NumberedRow) (entries : List Entry)
      → best before 4 (entries ++ map (moved_by hit.first) (list (hit_as hit).row)) ≡ entries
      → AreBestOf before list (map hit_as hits) (take i (map hit_as hits)) rows entries
      → AreBestOf before list (map hit_as hits) (take (i + 1) (map hit_as hits)) rows entries
  rows-same rows entries stays of = record {
    of_all = best-taken any_row list order hits i hit within is refl entries entries of.of_all (sym stays);
    of_rows = of.of_rows;
    among = of.among;
  }

  -- or the row is one of those that list the best
  pub rows-more : (rows more : List Hit) (entries now : List Entry) → more ≡ rows ++ hit ∷ []
      → now ≡ best before 4 (entries ++ map (moved_by hit.first) (list (hit_as hit).row))
      → AreBestOf before list (map hit_as hits) (take i (map hit_as hits)) (map hit_as rows) entries
      → AreBestOf before list (map hit_as hits) (take (i + 1) (map hit_as hits)) (map hit_as more) now
  rows-more rows more entries now pushed joined of =
      let all = map hit_as hits in
      let is_more : map hit_as more ≡ map hit_as rows ++ hit_as hit ∷ [] = ap (map hit_as) pushed ∙ map-append hit_as rows (hit ∷ []) in
      let there : Contains all (hit_as hit) = subst (Contains all) (hit-at hits i hit within is) (Contains-get_or all i (hit_as hit) (hit-within hits i hit within is)) in
      record {
        of_all = best-taken any_row list order hits i hit within is refl entries now of.of_all joined;
        of_rows = best-more any_row list order (map hit_as rows) (hit_as hit) refl entries now of.of_rows joined
            ∙ ap (λ l. best before 4 (entries_where l any_row list)) (sym is_more);
        among = subst (All (Contains all)) (sym is_more) (All-push (Contains all) (map hit_as rows) (hit_as hit) of.among there);
      }

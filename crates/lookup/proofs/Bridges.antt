-- What is summed, listed and told apart of hits is what is of the rows of all parts that pass the filter.
use Rattle.std.proofs.Common.{◌≡◌, ℕ, ◌+◌, Bool, true, false, ◌&&◌, ◌||◌, ◌==◌, nat_lt, cond, if◌then◌else◌, List, [], ◌∷◌, ◌++◌, map, length, bytes_eq, Option, None, refl, sym, ap, ◌∙◌, zero-add}
use Rattle.std.specs.List.{AllByRecursion, sum_by, flat_map, filter, filter_map, cons_option}
use Rattle.std.specs.Ordering.{nat_cmp, is_lt}
use Rattle.std.specs.Cmp.Lexicographic.{slice_cmp}
use Rattle.std.proofs.lemmas.List.{map-append, length-map}
use Rattle.std.proofs.lemmas.List.Elements.{filter-append, filter_map-append}
use Rattle.std.proofs.lemmas.Grind.{flat_map-append}
use Rattle.std.proofs.lemmas.List.Sums.{sum_by-cons, sum_by-append}
use Rattle.std.proofs.lemmas.Slice.Zip.{AllZip-long}
use Rattle.best_lists.specs.Entry.{moved_by}
use Rattle.best_lists.specs.Ranking.{before_by_rating, before_by_month}
use Rattle.best_lists.specs.declared.entry.Entry.{Entry}
use Rattle.explorer_model.specs.declared.archive.Month.{Month}
use Rattle.explorer_model.specs.declared.chess.Move.{Move}
use Rattle.explorer_model.specs.declared.query.Filter.{Filter}
use Rattle.explorer_model.specs.Best.{best}
use Rattle.explorer_model.specs.Counting.{any_next, is_move, is_same_move, is_same_month, before_in_time, distinct, total}
use Rattle.explorer_model.specs.Uci.{uci_text}
use Rattle.tally_rows.specs.declared.row_key.RowKey.{RowKey}
use Rattle.tally_rows.specs.declared.row.Row.{Row}
use Rattle.tally_rows.specs.Cover.{passes_row_key, meets, meets_in, rows_totals, rows_ratings, rows_moves, rows_months, rows_month_line, rows_before}
use Rattle.tally_rows.specs.Recount.{all_of, picks, picked_sum, picked_lists, cover_lists}
use Rattle.tally_rows.specs.Row.{row_key_of}
use Rattle.tally_rows.specs.Tally.{IsTrackOf}
use Rattle.lookup.specs.Parts.{Part, IsPart}
use Rattle.row_sums.specs.Hits.{NumberedRow}
use Rattle.lookup.specs.Hits.{rows_from}
use Rattle.row_sums.specs.Sums.{sum_where, totals_where, ratings_where, entries_where, is_of_month, top_where, recent_where, moves_in, months_in, before_by_total, history_in}
use Rattle.lookup.specs.Parts.{tracks_in}
use Rattle.lookup.proofs.Numbered.{numbered}

-- the rows of each part
abbrev pub rows_in : List Part → List (List Row)
rows_in parts = map (λ part. part.rows) parts

-- the rows that the filter takes, with their numbers
abbrev pub hits_of : List ℕ → Filter → List Part → List NumberedRow
hits_of key wanted parts = rows_from key (meets wanted any_next) 0 parts

-- a batch has a track for each of its classes
pub tracks-length : (part : Part) (counted : IsPart part) → length counted.tally.tracks ≡ length part.classes
tracks-length part counted =
    AllZip-long IsTrackOf counted.tally.games counted.tally.tracks counted.tally.are_tracks
    ∙ sym (ap (λ l. length l) counted.tally.classes_are ∙ length-map counted.tally.games (λ game. game.classes))

-- ---- tests of rows that are picked

module _ (key : List ℕ) (wanted : Filter) where
  pub picks-test : (test : Option Move → Bool) (row : Row) → picks key (meets wanted test) row ≡ (picks key (meets wanted any_next) row && test row.next)
  unfolding picks
  picks-test test row = all (bytes_eq row.key key) (passes_row_key wanted (row_key_of row)) (test row.next)
    where
      all : (a b c : Bool) → (a && (b && c)) ≡ ((a && (b && true)) && c)
      all true true c = refl
      all true false c = refl
      all false b c = refl

  pub picks-month : (month : Month) (row : Row) → picks key (meets_in month wanted) row ≡ (picks key (meets wanted any_next) row && is_of_month month row)
  unfolding picks
  picks-month month row = all (bytes_eq row.key key) (passes_row_key wanted (row_key_of row)) (is_same_month month row.month)
    where
      all : (a b c : Bool) → (a && (b && c)) ≡ ((a && (b && true)) && c)
      all true true c = refl
      all true false c = refl
      all false b c = refl

-- ---- sums and lists, of one part after another

module _ (key : List ℕ) (pick narrow : RowKey → Bool) (test : Row → Bool) (agree : (row : Row) → picks key narrow row ≡ (picks key pick row && test row)) where
  sum-rows : (count : Row → ℕ) (first : ℕ) (rows : List Row)
      → sum_by (λ (hit : NumberedRow). cond (test hit.row) (count hit.row) 0) (map (numbered first) (filter (picks key pick) rows)) ≡ picked_sum key narrow count rows
  sum-rows count first [] = refl
  sum-rows count first (row ∷ rows) =
      let f = λ (hit : NumberedRow). cond (test hit.row) (count hit.row) 0 in
      let later = filter (picks key pick) rows in
      elim (picks key pick row) as (λ b. sum_by f (map (numbered first) (cond b (row ∷ later) later))
      ≡ cond (b && test row) (count row) 0 + picked_sum key narrow count rows) [
        | true ↦ sum_by-cons f (numbered first row) (map (numbered first) later) ∙ ap (λ n. cond (test row) (count row) 0 + n) (sum-rows count first rows)
        | false ↦ sum-rows count first rows ∙ sym (zero-add (picked_sum key narrow count rows))
      ]
      ∙ ap (λ b. cond b (count row) 0 + picked_sum key narrow count rows) (sym (agree row))
      ∙ sym (sum_by-cons (λ r. cond (picks key narrow r) (count r) 0) row rows)

  pub sum-picked : (count : Row → ℕ) (first : ℕ) (parts : List Part)
      → sum_by (picked_sum key narrow count) (rows_in parts) ≡ sum_where (rows_from key pick first parts) test count
  unfolding sum_where rows_from
  sum-picked count first [] = refl
  sum-picked count first (part ∷ parts) =
      sum_by-cons (picked_sum key narrow count) part.rows (rows_in parts)
      ∙ (λ i. sym (sum-rows count first part.rows) i + sum-picked count (first + length part.classes) parts i)
      ∙ sym (sum_by-append (λ (hit : NumberedRow). cond (test hit.row) (count hit.row) 0) (map (numbered first) (filter (picks key pick) part.rows))
      (rows_from key pick (first + length part.classes) parts))

  pub totals-picked : (first : ℕ) (parts : List Part) → rows_totals key (rows_in parts) narrow ≡ totals_where (rows_from key pick first parts) test
  totals-picked first parts =
      let white = sum-picked (λ row. row.white) first parts in
      let draws = sum-picked (λ row. row.draws) first parts in
      let black = sum-picked (λ row. row.black) first parts in
      λ i. record { white = white i; draws = draws i; black = black i }

  lists-rows : (list : Row → List Entry) (first : ℕ) (rows : List Row)
      → flat_map (λ (hit : NumberedRow). cond (test hit.row) (map (moved_by hit.first) (list hit.row)) []) (map (numbered first) (filter (picks key pick) rows))
      ≡ map (moved_by first) (picked_lists key narrow list rows)
  lists-rows list first [] = refl
  lists-rows list first (row ∷ rows) =
      let f = λ (hit : NumberedRow). cond (test hit.row) (map (moved_by hit.first) (list hit.row)) [] in
      let later = filter (picks key pick) rows in
      elim (picks key pick row) as (λ b. flat_map f (map (numbered first) (cond b (row ∷ later) later))
      ≡ map (moved_by first) (cond (b && test row) (list row) []) ++ map (moved_by first) (picked_lists key narrow list rows)) [
        | true ↦ (λ i. moved (test row) i ++ lists-rows list first rows i)
        | false ↦ lists-rows list first rows
      ]
      ∙ ap (λ b. map (moved_by first) (cond b (list row) []) ++ map (moved_by first) (picked_lists key narrow list rows)) (sym (agree row))
      ∙ sym (map-append (moved_by first) (cond (picks key narrow row) (list row) []) (picked_lists key narrow list rows))
    where
      moved : (b : Bool) → cond b (map (moved_by first) (list row)) [] ≡ map (moved_by first) (cond b (list row) [])
      moved true = refl
      moved false = refl

  pub lists-picked : (list : Row → List Entry) (first : ℕ) (parts : List Part) (each : AllByRecursion IsPart parts)
      → cover_lists key narrow list first (tracks_in parts each) (rows_in parts) ≡ entries_where (rows_from key pick first parts) test list
  unfolding cover_lists entries_where rows_from
  lists-picked list first [] each = refl
  lists-picked list first (part ∷ parts) each =
      let f = λ (hit : NumberedRow). cond (test hit.row) (map (moved_by hit.first) (list hit.row)) [] in
      let here = map (numbered first) (filter (picks key pick) part.rows) in
      let rest = rows_from key pick (first + length part.classes) parts in
      ap (λ n. map (moved_by first) (picked_lists key narrow list part.rows) ++ cover_lists key narrow list (first + n) (tracks_in parts each.1) (rows_in parts))
      (tracks-length part each.0)
      ∙ (λ i. sym (lists-rows list first part.rows) i ++ lists-picked list (first + length part.classes) parts each.1 i)
      ∙ sym (flat_map-append f here rest)

-- ---- moves and months

module _ (key : List ℕ) (pick : RowKey → Bool) where
  moves-rows : (first : ℕ) (rows : List Row)
      → filter_map (λ row. if picks key pick row then row.next else None) rows
      ≡ filter_map (λ (hit : NumberedRow). hit.row.next) (map (numbered first) (filter (picks key pick) rows))
  moves-rows first [] = refl
  moves-rows first (row ∷ rows) =
      elim (picks key pick row) as (λ b. cons_option (if b then row.next else None) (filter_map (λ r. if picks key pick r then r.next else None) rows)
      ≡ filter_map (λ (hit : NumberedRow). hit.row.next) (map (numbered first) (cond b (row ∷ filter (picks key pick) rows) (filter (picks key pick) rows)))) [
        | true ↦ ap (cons_option row.next) (moves-rows first rows)
        | false ↦ moves-rows first rows
      ]

  moves-picked : (first : ℕ) (parts : List Part)
      → filter_map (λ row. if picks key pick row then row.next else None) (all_of (rows_in parts))
      ≡ filter_map (λ (hit : NumberedRow). hit.row.next) (rows_from key pick first parts)
  unfolding rows_from
  moves-picked first [] = refl
  moves-picked first (part ∷ parts) =
      filter_map-append (λ row. if picks key pick row then row.next else None) part.rows (all_of (rows_in parts))
      ∙ (λ i. moves-rows first part.rows i ++ moves-picked (first + length part.classes) parts i)
      ∙ sym (filter_map-append (λ (hit : NumberedRow). hit.row.next) (map (numbered first) (filter (picks key pick) part.rows))
      (rows_from key pick (first + length part.classes) parts))

  months-rows : (first : ℕ) (rows : List Row)
      → map (λ (hit : NumberedRow). hit.row.month) (map (numbered first) rows) ≡ map (λ row. row.month) rows
  months-rows first [] = refl
  months-rows first (row ∷ rows) = ap (λ l. row.month ∷ l) (months-rows first rows)

  months-picked : (first : ℕ) (parts : List Part)
      → map (λ row. row.month) (filter (picks key pick) (all_of (rows_in parts))) ≡ map (λ (hit : NumberedRow). hit.row.month) (rows_from key pick first parts)
  unfolding rows_from
  months-picked first [] = refl
  months-picked first (part ∷ parts) =
      let here = filter (picks key pick) part.rows in
      let rest = filter (picks key pick) (all_of (rows_in parts)) in
      ap (map (λ row. row.month)) (filter-append (picks key pick) part.rows (all_of (rows_in parts)))
      ∙ map-append (λ row. row.month) here rest
      ∙ (λ i. sym (months-rows first here) i ++ months-picked (first + length part.classes) parts i)
      ∙ sym (map-append (λ (hit : NumberedRow). hit.row.month) (map (numbered first) here) (rows_from key pick (first + length part.classes) parts))

-- ---- in the words of the answer

module _ (key : List ℕ) (wanted : Filter) (parts : List Part) where
  pub totals-are : (test : Option Move → Bool) → rows_totals key (rows_in parts) (meets wanted test) ≡ totals_where (hits_of key wanted parts) (λ row. test row.next)
  totals-are test = totals-picked key (meets wanted any_next) (meets wanted test) (λ row. test row.next) (picks-test key wanted test) 0 parts

  pub ratings-are : (test : Option Move → Bool) → rows_ratings key (rows_in parts) (meets wanted test) ≡ ratings_where (hits_of key wanted parts) (λ row. test row.next)
  ratings-are test = sum-picked key (meets wanted any_next) (meets wanted test) (λ row. test row.next) (picks-test key wanted test) (λ row. row.ratings) 0 parts

  pub month-totals-are : (month : Month) → rows_totals key (rows_in parts) (meets_in month wanted) ≡ totals_where (hits_of key wanted parts) (is_of_month month)
  month-totals-are month = totals-picked key (meets wanted any_next) (meets_in month wanted) (is_of_month month) (picks-month key wanted month) 0 parts

  pub lists-are : (each : AllByRecursion IsPart parts) (test : Option Move → Bool) (list : Row → List Entry)
      → cover_lists key (meets wanted test) list 0 (tracks_in parts each) (rows_in parts) ≡ entries_where (hits_of key wanted parts) (λ row. test row.next) list
  lists-are each test list = lists-picked key (meets wanted any_next) (meets wanted test) (λ row. test row.next) (picks-test key wanted test) list 0 parts each

  pub moves-are : rows_moves key (rows_in parts) wanted ≡ moves_in (hits_of key wanted parts)
  unfolding rows_moves moves_in
  moves-are = ap (distinct is_same_move) (moves-picked key (meets wanted any_next) 0 parts)

  pub months-are : rows_months key (rows_in parts) wanted ≡ months_in (hits_of key wanted parts)
  unfolding rows_months months_in
  months-are = ap (distinct is_same_month) (months-picked key (meets wanted any_next) 0 parts)

  pub before-is : (a b : Move) → rows_before key (rows_in parts) wanted a b ≡ before_by_total (hits_of key wanted parts) a b
  before-is a b =
      let of_a = totals-are (is_move a) in
      let of_b = totals-are (is_move b) in
      λ i. nat_lt (total (of_b i)) (total (of_a i))
      || ((total (of_a i) == total (of_b i)) && is_lt (slice_cmp nat_cmp (uci_text a) (uci_text b)))

  pub top-is : (each : AllByRecursion IsPart parts) (test : Option Move → Bool)
      → best before_by_rating 4 (cover_lists key (meets wanted test) (λ row. row.top) 0 (tracks_in parts each) (rows_in parts))
      ≡ top_where (hits_of key wanted parts) (λ row. test row.next)
  top-is each test = ap (best before_by_rating 4) (lists-are each test (λ row. row.top))

  pub recent-is : (each : AllByRecursion IsPart parts) (test : Option Move → Bool)
      → best before_by_month 4 (cover_lists key (meets wanted test) (λ row. row.recent) 0 (tracks_in parts each) (rows_in parts))
      ≡ recent_where (hits_of key wanted parts) (λ row. test row.next)
  recent-is each test = ap (best before_by_month 4) (lists-are each test (λ row. row.recent))

  pub first-moves-are : (most : ℕ) → best (rows_before key (rows_in parts) wanted) most (rows_moves key (rows_in parts) wanted)
      ≡ best (before_by_total (hits_of key wanted parts)) most (moves_in (hits_of key wanted parts))
  first-moves-are most = λ i. best (λ a b. before-is a b i) most (moves-are i)

  pub history-is : (let months = rows_months key (rows_in parts) wanted in map (rows_month_line key (rows_in parts) wanted) (best before_in_time (length months) months))
      ≡ history_in (hits_of key wanted parts)
  history-is = λ i. map (λ month. record { month = month; totals = month-totals-are month i }) (best before_in_time (length (months-are i)) (months-are i))

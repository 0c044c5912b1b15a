-- The rows of two lists of games, one after the other.
use Rattle.std.proofs.Common.{◌≡◌, ℕ, Bool, true, false, cond, List, [], ◌∷◌, ◌++◌, map, length, refl, sym, ap, ◌∙◌, arith}
use Rattle.std.specs.List.{All, sum_by}
use Rattle.std.specs.List.Sorted.{IsStrictlySortedBy}
use Rattle.std.proofs.lemmas.List.{map-append}
use Rattle.std.proofs.lemmas.List.Sums.{sum_by-append}
use Rattle.std.proofs.lemmas.List.Concat.{flat_map-append}
use Rattle.explorer_model.specs.Best.{best, IsStrictTotalOrder}
use Rattle.best_lists.specs.Entry.{moved_by}
use Rattle.best_lists.specs.Ranking.{by_rating_is_order, by_month_is_order, KeepsWhenMoved, by_rating_keeps, by_month_keeps}
use Rattle.best_lists.specs.declared.entry.Entry.{Entry}
use Rattle.best_lists.proofs.BestLaws.{best-append}
use Rattle.best_lists.proofs.Entries.{best-moved}
use Rattle.tally_rows.specs.declared.row_key.RowKey.{RowKey}
use Rattle.tally_rows.specs.declared.row.Row.{Row}
use Rattle.tally_rows.specs.Adding.{sum_at, listed_at, SameAt, IsSound}
use Rattle.tally_rows.specs.RowKey.{row_order, same_row_key}
use Rattle.tally_rows.specs.Row.{row_key_of, shifted_row}
use Rattle.tally_rows.specs.Tallied.{entries, has_move, rating_sum, track_month, Tallied}
use Rattle.tally_rows.specs.Track.{Track}
use Rattle.tally_rows.proofs.AddsUp.{AddsUp, AddsUp-same, AddsUp-tallied, tallied_from}
use Rattle.tally_rows.proofs.EntryLists.{entries-append, entries-moved}
use Rattle.tally_rows.proofs.Sums.{sum_by-map}

-- the best of two lists, of which the second is moved, from the best of each
pub best-both : {before : Entry → Entry → Bool} → IsStrictTotalOrder before → KeepsWhenMoved before → (by : ℕ) (xs ys us vs : List Entry)
    → best before 4 xs ≡ best before 4 us → best before 4 ys ≡ best before 4 vs
    → best before 4 (xs ++ map (moved_by by) ys) ≡ best before 4 (us ++ map (moved_by by) vs)
best-both {before} order keeps by xs ys us vs left right =
    best-append order 4 xs (map (moved_by by) ys)
    ∙ ap (λ l. best before 4 (l ++ best before 4 (map (moved_by by) ys))) left
    ∙ ap (λ l. best before 4 (best before 4 us ++ l)) (best-moved keeps by 4 ys ∙ ap (map (moved_by by)) right ∙ sym (best-moved keeps by 4 vs))
    ∙ sym (best-append order 4 us (map (moved_by by) vs))

-- entries of games in a row, numbered from the first
pub entries-both : (rank : Track → ℕ) (test : Track → Bool) (xs ys : List Track)
    → entries rank test 0 (xs ++ ys) ≡ entries rank test 0 xs ++ map (moved_by (length xs)) (entries rank test 0 ys)
entries-both rank test xs ys =
    entries-append rank test 0 xs ys ∙ ap (λ l. entries rank test 0 xs ++ l) (entries-moved rank test (length xs) 0 ys)

module _ (by : ℕ) (c : RowKey) where
  shifted-row_key : (row : Row) → row_key_of (shifted_row by row) ≡ row_key_of row
  unfolding shifted_row
  shifted-row_key row = refl

  sum_at-shifted : (f : Row → ℕ) → ((row : Row) → f (shifted_row by row) ≡ f row) → (rows : List Row)
      → sum_at f c (map (shifted_row by) rows) ≡ sum_at f c rows
  sum_at-shifted f e rows =
      sum_by-map (λ row. cond (same_row_key c (row_key_of row)) (f row) 0) (shifted_row by) rows
      ∙ ap (λ h. sum_by h rows) (λ i row. cond (same_row_key c (shifted-row_key row i)) (e row i) 0)

  listed_at-shifted : (f : Row → List Entry) → ((row : Row) → f (shifted_row by row) ≡ map (moved_by by) (f row)) → (rows : List Row)
      → listed_at f c (map (shifted_row by) rows) ≡ map (moved_by by) (listed_at f c rows)
  listed_at-shifted f e [] = refl
  listed_at-shifted f e (row ∷ rows) =
      ap (λ p. cond (same_row_key c p) (f (shifted_row by row)) [] ++ listed_at f c (map (shifted_row by) rows)) (shifted-row_key row)
      ∙ ap (λ l. cond (same_row_key c (row_key_of row)) l [] ++ listed_at f c (map (shifted_row by) rows)) (e row)
      ∙ ap (λ l. cond (same_row_key c (row_key_of row)) (map (moved_by by) (f row)) [] ++ l) (listed_at-shifted f e rows)
      ∙ elim (same_row_key c (row_key_of row)) as (λ b. cond b (map (moved_by by) (f row)) [] ++ map (moved_by by) (listed_at f c rows)
      ≡ map (moved_by by) (cond b (f row) [] ++ listed_at f c rows)) [
        | true ↦ sym (map-append (moved_by by) (f row) (listed_at f c rows))
        | false ↦ refl
      ]

-- rows of both lists, those of the second shifted, add up to both
AddsUp-both : (xs ys : List Track) (left right : List Row) (c : RowKey) → AddsUp xs left c → AddsUp ys right c
    → AddsUp (xs ++ ys) (left ++ map (shifted_row (length xs)) right) c
unfolding shifted_row
AddsUp-both xs ys left right c a b = record {
  white = sums (λ r. r.white) (λ r. refl) _ a.white b.white;
  draws = sums (λ r. r.draws) (λ r. refl) _ a.draws b.draws;
  black = sums (λ r. r.black) (λ r. refl) _ a.black b.black;
  ratings = sums (λ r. r.ratings) (λ r. refl) _ a.ratings b.ratings;
  top = lists by_rating_is_order by_rating_keeps (λ r. r.top) (λ r. refl) rating_sum a.top b.top;
  recent = lists by_month_is_order by_month_keeps (λ r. r.recent) (λ r. refl) track_month a.recent b.recent;
}
  where
    sums : (f : Row → ℕ) → ((row : Row) → f (shifted_row (length xs) row) ≡ f row) → (g : Track → ℕ)
        → sum_at f c left ≡ sum_by g xs → sum_at f c right ≡ sum_by g ys
        → sum_at f c (left ++ map (shifted_row (length xs)) right) ≡ sum_by g (xs ++ ys)
    sums f e g p q =
        let F = λ (row : Row). cond (same_row_key c (row_key_of row)) (f row) 0 in
        omega (arith, sum_by-append F left (map (shifted_row (length xs)) right), sum_at-shifted (length xs) c f e right, p, q, sum_by-append g xs ys)

    lists : {before : Entry → Entry → Bool} → IsStrictTotalOrder before → KeepsWhenMoved before → (f : Row → List Entry)
        → ((row : Row) → f (shifted_row (length xs) row) ≡ map (moved_by (length xs)) (f row)) → (rank : Track → ℕ)
        → best before 4 (listed_at f c left) ≡ best before 4 (entries rank (has_move c) 0 xs)
        → best before 4 (listed_at f c right) ≡ best before 4 (entries rank (has_move c) 0 ys)
        → best before 4 (listed_at f c (left ++ map (shifted_row (length xs)) right)) ≡ best before 4 (entries rank (has_move c) 0 (xs ++ ys))
    lists {before} order keeps f e rank p q =
        ap (best before 4) (flat_map-append (λ row. cond (same_row_key c (row_key_of row)) (f row) []) left (map (shifted_row (length xs)) right)
        ∙ ap (λ l. listed_at f c left ++ l) (listed_at-shifted (length xs) c f e right))
        ∙ best-both order keeps (length xs) (listed_at f c left) (listed_at f c right) (entries rank (has_move c) 0 xs) (entries rank (has_move c) 0 ys) p q
        ∙ ap (best before 4) (sym (entries-both rank (has_move c) xs ys))

pub Tallied-both : (xs ys : List Track) (left right rows : List Row) → Tallied xs left → Tallied ys right
    → ((c : RowKey) → SameAt (left ++ map (shifted_row (length xs)) right) rows c) → All IsSound rows
    → IsStrictlySortedBy row_order (map row_key_of rows) → Tallied (xs ++ ys) rows
Tallied-both xs ys left right rows a b same sound ordered =
    tallied_from (xs ++ ys) rows
    (λ c. AddsUp-same (xs ++ ys) (left ++ map (shifted_row (length xs)) right) rows c (same c)
    (AddsUp-both xs ys left right c (AddsUp-tallied xs left a c) (AddsUp-tallied ys right b c)))
    sound ordered

-- Rows put together where they stand next to each other.
use Rattle.std.proofs.Common.{◌≡◌, ℕ, ◌+◌, ◌<◌, Bool, true, false, cond, if◌then◌else◌, is_some, List, [], ◌∷◌, ◌++◌, map, length, drop, get_or, refl, sym, ap, subst, ◌∙◌, append_assoc, arith}
use Rattle.std.specs.List.{AllByRecursion, dedup, dedup_from}
use Rattle.std.specs.List.Sorted.{IsSorted, IsStrictlySortedBy}
use Rattle.std.specs.Ordering.{eq_by_cmp}
use Rattle.std.proofs.lemmas.List.{drop_more}
use Rattle.std.proofs.lemmas.List.Kept.{IsStrictlySortedBy-dedup}
use Rattle.explorer_model.specs.Best.{best, IsStrictTotalOrder}
use Rattle.best_lists.specs.Ranking.{before_by_rating, before_by_month, by_rating_is_order, by_month_is_order}
use Rattle.best_lists.specs.declared.entry.Entry.{Entry}
use Rattle.best_lists.proofs.BestLaws.{best-best, best-one, best-nil}
use Rattle.explorer_model.specs.declared.archive.Outcome.{Outcome}
use Rattle.explorer_model.specs.declared.archive.Outcome.TheVariants as outcomes
use Rattle.tally_rows.specs.declared.row_key.RowKey.{RowKey}
use Rattle.tally_rows.specs.declared.row.Row.{Row}
use Rattle.tally_rows.specs.declared.single.Single.{Single}
use Rattle.tally_rows.specs.Adding.{sum_at, listed_at, SameAt, IsSound}
use Rattle.tally_rows.specs.RowKey.{row_order, row_order-total, same_row_key}
use Rattle.tally_rows.specs.Row.{row_key_of, is_white, is_draw, is_black, row_of, combined, combined_from, combined_rows}
use Rattle.tally_rows.proofs.At.{sum_at-cons}
use Rattle.tally_rows.proofs.Bests.{best-left, best-right}
use Rattle.tally_rows.proofs.RowOrder.{same_row_key-is, same_row_key-comm}

pub combined_from-nil : (last : Row) → combined_from last [] ≡ last ∷ []
unfolding combined_from
combined_from-nil last = refl

pub combined_from-same : (last row : Row) (rows : List Row) → same_row_key (row_key_of last) (row_key_of row) ≡ true
    → combined_from last (row ∷ rows) ≡ combined_from (combined last row) rows
unfolding combined_from
combined_from-same last row rows e = ap (λ b. if b then combined_from (combined last row) rows else last ∷ combined_from row rows) e

pub combined_from-other : (last row : Row) (rows : List Row) → same_row_key (row_key_of last) (row_key_of row) ≡ false
    → combined_from last (row ∷ rows) ≡ last ∷ combined_from row rows
unfolding combined_from
combined_from-other last row rows e = ap (λ b. if b then combined_from (combined last row) rows else last ∷ combined_from row rows) e

-- a single counts one game
pub row_of-one : (s : Single) → (row_of s).white + (row_of s).draws + (row_of s).black ≡ 1
unfolding row_of
row_of-one s = one s.outcome
  where
    one : (outcome : Outcome) → cond {A = ℕ} (is_white outcome) 1 0 + cond {A = ℕ} (is_draw outcome) 1 0 + cond {A = ℕ} (is_black outcome) 1 0 ≡ 1
    one outcomes.White = refl
    one outcomes.Draw = refl
    one outcomes.Black = refl

module _ (done : List Row) (last row : Row) (singles : List Single) (i : ℕ) (s : Single) (below : i < length singles) (is : s ≡ get_or singles i s) (of : row ≡ row_of s) where
  next : map row_of (drop i singles) ≡ row ∷ map row_of (drop (i + 1) singles)
  next =
      ap (map row_of) (drop_more singles i s below) ∙ ap (λ t. row_of t ∷ map row_of (drop (i + 1) singles)) (sym is)
      ∙ ap (λ r. r ∷ map row_of (drop (i + 1) singles)) (sym of)

  pub step-same : same_row_key (row_key_of last) (row_key_of row) ≡ true
      → done ++ combined_from (combined last row) (map row_of (drop (i + 1) singles)) ≡ done ++ combined_from last (map row_of (drop i singles))
  step-same e =
      sym (ap (λ l. done ++ combined_from last l) next ∙ ap (λ l. done ++ l) (combined_from-same last row (map row_of (drop (i + 1) singles)) e))

  pub step-other : same_row_key (row_key_of last) (row_key_of row) ≡ false
      → (done ++ last ∷ []) ++ combined_from row (map row_of (drop (i + 1) singles)) ≡ done ++ combined_from last (map row_of (drop i singles))
  step-other e =
      append_assoc done (last ∷ []) (combined_from row (map row_of (drop (i + 1) singles)))
      ∙ sym (ap (λ l. done ++ combined_from last l) next ∙ ap (λ l. done ++ l) (combined_from-other last row (map row_of (drop (i + 1) singles)) e))

-- the sums of two rows together
pub combined-white : (a b : Row) → (combined a b).white ≡ a.white + b.white
unfolding combined
combined-white a b = refl

pub combined-draws : (a b : Row) → (combined a b).draws ≡ a.draws + b.draws
unfolding combined
combined-draws a b = refl

pub combined-black : (a b : Row) → (combined a b).black ≡ a.black + b.black
unfolding combined
combined-black a b = refl

pub combined-ratings : (a b : Row) → (combined a b).ratings ≡ a.ratings + b.ratings
unfolding combined
combined-ratings a b = refl

pub combined-row_key : (a b : Row) → row_key_of (combined a b) ≡ row_key_of a
unfolding combined
combined-row_key a b = refl

-- putting together keeps what rows add up to
module _ (c : RowKey) where
  cond-add : (b : Bool) (m n : ℕ) → cond b (m + n) 0 ≡ cond b m 0 + cond b n 0
  cond-add true m n = refl
  cond-add false m n = refl

  sum_at-combined_from : (f : Row → ℕ) → ((a b : Row) → f (combined a b) ≡ f a + f b) → (last : Row) (rows : List Row)
      → sum_at f c (combined_from last rows) ≡ sum_at f c (last ∷ rows)
  sum_at-combined_from f adds last [] = ap (sum_at f c) (combined_from-nil last)
  sum_at-combined_from f adds last (row ∷ rows) =
      elim (same_row_key (row_key_of last) (row_key_of row)) as (λ b. same_row_key (row_key_of last) (row_key_of row) ≡ b
      → sum_at f c (combined_from last (row ∷ rows)) ≡ sum_at f c (last ∷ row ∷ rows)) [
        | true ↦ λ e.
            let here = same_row_key c (row_key_of last) in
            let one : cond (same_row_key c (row_key_of (combined last row))) (f (combined last row)) 0 ≡ cond here (f last) 0 + cond (same_row_key c (row_key_of row)) (f row) 0 =
            ap (λ p. cond (same_row_key c p) (f (combined last row)) 0) (combined-row_key last row)
            ∙ ap (λ n. cond here n 0) (adds last row) ∙ cond-add here (f last) (f row)
            ∙ ap (λ p. cond here (f last) 0 + cond (same_row_key c p) (f row) 0) (same_row_key-is (row_key_of last) (row_key_of row) e) in
            ap (sum_at f c) (combined_from-same last row rows e) ∙ sum_at-combined_from f adds (combined last row) rows
            ∙ omega (arith, one, sum_at-cons f c (combined last row) rows, sum_at-cons f c last (row ∷ rows), sum_at-cons f c row rows)
        | false ↦ λ e.
            ap (sum_at f c) (combined_from-other last row rows e)
            ∙ omega (arith, sum_at-cons f c last (combined_from row rows), sum_at-combined_from f adds row rows, sum_at-cons f c last (row ∷ rows))
      ] refl

  listed_at-combined_from : {before : Entry → Entry → Bool} → IsStrictTotalOrder before → (f : Row → List Entry)
      → ((a b : Row) → f (combined a b) ≡ best before 4 (f a ++ f b)) → (last : Row) (rows : List Row)
      → best before 4 (listed_at f c (combined_from last rows)) ≡ best before 4 (listed_at f c (last ∷ rows))
  listed_at-combined_from {before} order f joins last [] = ap (λ l. best before 4 (listed_at f c l)) (combined_from-nil last)
  listed_at-combined_from {before} order f joins last (row ∷ rows) =
      elim (same_row_key (row_key_of last) (row_key_of row)) as (λ b. same_row_key (row_key_of last) (row_key_of row) ≡ b
      → best before 4 (listed_at f c (combined_from last (row ∷ rows))) ≡ best before 4 (listed_at f c (last ∷ row ∷ rows))) [
        | true ↦ λ e.
            let rest = listed_at f c rows in
            ap (λ l. best before 4 (listed_at f c l)) (combined_from-same last row rows e)
            ∙ listed_at-combined_from order f joins (combined last row) rows
            ∙ ap (λ p. best before 4 (cond (same_row_key c p) (f (combined last row)) [] ++ rest)) (combined-row_key last row)
            ∙ ap (λ l. best before 4 (cond (same_row_key c (row_key_of last)) l [] ++ rest)) (joins last row)
            ∙ both (same_row_key c (row_key_of last)) rest
            ∙ ap (λ p. best before 4 (cond (same_row_key c (row_key_of last)) (f last) [] ++ (cond (same_row_key c p) (f row) [] ++ rest)))
            (same_row_key-is (row_key_of last) (row_key_of row) e)
        | false ↦ λ e.
            ap (λ l. best before 4 (listed_at f c l)) (combined_from-other last row rows e)
            ∙ best-right order 4 (cond (same_row_key c (row_key_of last)) (f last) []) (listed_at f c (combined_from row rows)) (listed_at f c (row ∷ rows))
            (listed_at-combined_from order f joins row rows)
      ] refl
    where
      both : (b : Bool) (rest : List Entry) → best before 4 (cond b (best before 4 (f last ++ f row)) [] ++ rest)
          ≡ best before 4 (cond b (f last) [] ++ (cond b (f row) [] ++ rest))
      both true rest = best-left order 4 (f last ++ f row) rest ∙ ap (best before 4) (append_assoc (f last) (f row) rest)
      both false rest = refl

combined-top : (a b : Row) → (combined a b).top ≡ best before_by_rating 4 (a.top ++ b.top)
unfolding combined
combined-top a b = refl

combined-recent : (a b : Row) → (combined a b).recent ≡ best before_by_month 4 (a.recent ++ b.recent)
unfolding combined
combined-recent a b = refl

pub SameAt-combined_rows : (rows : List Row) (c : RowKey) → SameAt rows (combined_rows rows) c
unfolding combined_rows
SameAt-combined_rows [] c = record { white = refl; draws = refl; black = refl; ratings = refl; top = refl; recent = refl }
SameAt-combined_rows (row ∷ rows) c = record {
  white = sym (sum_at-combined_from c (λ r. r.white) combined-white row rows);
  draws = sym (sum_at-combined_from c (λ r. r.draws) combined-draws row rows);
  black = sym (sum_at-combined_from c (λ r. r.black) combined-black row rows);
  ratings = sym (sum_at-combined_from c (λ r. r.ratings) combined-ratings row rows);
  top = sym (listed_at-combined_from c by_rating_is_order (λ r. r.top) combined-top row rows);
  recent = sym (listed_at-combined_from c by_month_is_order (λ r. r.recent) combined-recent row rows);
}

-- rows that are sound stay so
IsSound-combined : (a b : Row) → IsSound a → IsSound (combined a b)
IsSound-combined a b h = record {
  some = omega (arith, h.some, combined-white a b, combined-draws a b, combined-black a b);
  top = rw (combined-top a b) (best-best by_rating_is_order 4 (a.top ++ b.top));
  recent = rw (combined-recent a b) (best-best by_month_is_order 4 (a.recent ++ b.recent));
}

IsSound-combined_from : (last : Row) (rows : List Row) → IsSound last → AllByRecursion IsSound rows → AllByRecursion IsSound (combined_from last rows)
IsSound-combined_from last [] h all = subst (AllByRecursion IsSound) (sym (combined_from-nil last)) (h, tt)
IsSound-combined_from last (row ∷ rows) h all =
    elim (same_row_key (row_key_of last) (row_key_of row)) as (λ b. same_row_key (row_key_of last) (row_key_of row) ≡ b → AllByRecursion IsSound (combined_from last (row ∷ rows))) [
      | true ↦ λ e. subst (AllByRecursion IsSound) (sym (combined_from-same last row rows e)) (IsSound-combined_from (combined last row) rows (IsSound-combined last row h) all.1)
      | false ↦ λ e. subst (AllByRecursion IsSound) (sym (combined_from-other last row rows e)) (h, IsSound-combined_from row rows all.0 all.1)
    ] refl

pub IsSound-combined_rows : (rows : List Row) → AllByRecursion IsSound rows → AllByRecursion IsSound (combined_rows rows)
unfolding combined_rows
IsSound-combined_rows [] h = tt
IsSound-combined_rows (row ∷ rows) h = IsSound-combined_from row rows h.0 h.1

pub IsSound-row_of : (s : Single) → IsSound (row_of s)
unfolding row_of
IsSound-row_of s = record {
  some = omega (arith, row_of-one s);
  top = own by_rating_is_order (is_some s.row_key.next) _;
  recent = own by_month_is_order (is_some s.row_key.next) _;
}
  where
    own : {before : Entry → Entry → Bool} → IsStrictTotalOrder before → (b : Bool) (e : Entry) → best before 4 (cond b (e ∷ []) []) ≡ cond b (e ∷ []) []
    own {before} order true e = best-one before 3 e
    own {before} order false e = best-nil before 4

-- the parts of rows that were put together: no two that stand next to each other are the same
row_key-combined_from : (last : Row) (rows : List Row) → map row_key_of (combined_from last rows) ≡ dedup_from same_row_key (row_key_of last) (map row_key_of rows)
row_key-combined_from last [] = ap (map row_key_of) (combined_from-nil last)
row_key-combined_from last (row ∷ rows) =
    elim (same_row_key (row_key_of last) (row_key_of row)) as (λ b. same_row_key (row_key_of last) (row_key_of row) ≡ b
    → map row_key_of (combined_from last (row ∷ rows)) ≡ dedup_from same_row_key (row_key_of last) (map row_key_of (row ∷ rows))) [
      | true ↦ λ e.
          ap (map row_key_of) (combined_from-same last row rows e) ∙ row_key-combined_from (combined last row) rows
          ∙ ap (λ p. dedup_from same_row_key p (map row_key_of rows)) (combined-row_key last row)
          ∙ sym (ap (λ b. cond b (dedup_from same_row_key (row_key_of last) (map row_key_of rows)) (row_key_of last ∷ dedup_from same_row_key (row_key_of row) (map row_key_of rows)))
          (same_row_key-comm (row_key_of row) (row_key_of last) ∙ e))
      | false ↦ λ e.
          ap (map row_key_of) (combined_from-other last row rows e) ∙ ap (λ l. row_key_of last ∷ l) (row_key-combined_from row rows)
          ∙ sym (ap (λ b. cond b (dedup_from same_row_key (row_key_of last) (map row_key_of rows)) (row_key_of last ∷ dedup_from same_row_key (row_key_of row) (map row_key_of rows)))
          (same_row_key-comm (row_key_of row) (row_key_of last) ∙ e))
    ] refl

row_key-combined_rows : (rows : List Row) → map row_key_of (combined_rows rows) ≡ dedup same_row_key (map row_key_of rows)
unfolding combined_rows
row_key-combined_rows [] = refl
row_key-combined_rows (row ∷ rows) = row_key-combined_from row rows

same_row_key-ties : (a b : RowKey) → same_row_key a b ≡ eq_by_cmp row_order a b
unfolding same_row_key
same_row_key-ties a b = refl

-- rows that stood in their order are strictly sorted
pub combined_rows-ordered : (rows : List Row) → IsSorted row_order (map row_key_of rows) → IsStrictlySortedBy row_order (map row_key_of (combined_rows rows))
combined_rows-ordered rows h =
    subst (IsStrictlySortedBy row_order) (sym (row_key-combined_rows rows)) (IsStrictlySortedBy-dedup row_order-total same_row_key-ties (map row_key_of rows) h)

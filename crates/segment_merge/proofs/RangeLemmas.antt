-- What is merged of ranges of keys, one range after another, is what is merged of all rows.
use Rattle.std.proofs.Common.{◌≡◌, ℕ, zero, suc, ◌+◌, ◌≤◌, Bool, true, false, cond, not, ◌&&◌, Option, None, Some, List, [], ◌∷◌, ◌++◌, map, filter, length, get_or, slice_get, refl, sym, ap, ◌∙◌, true≢false, append-nil, arith}
use Rattle.std.specs.List.{AllByRecursion}
use Rattle.std.specs.List.Sorted.{IsStrictlySortedBy}
use Rattle.std.specs.declared.cmp.Ordering.{Ordering}
use Rattle.std.specs.declared.cmp.Ordering.TheVariants.{Less, Equal, Greater}
use Rattle.std.specs.Ordering.{ordering_reverse, is_lt, is_gt}
use Rattle.std.specs.Cmp.Lexicographic.{nat_list_cmp_total}
use Rattle.plain_laws.specs.Lists.{filter-all, filter-both}
use Rattle.plain_laws.specs.Orderings.{then-less}
use Rattle.tally_rows.specs.declared.row_key.RowKey.{RowKey}
use Rattle.tally_rows.specs.declared.row.Row.{Row}
use Rattle.tally_rows.specs.RowKey.{row_order, row_order-total}
use Rattle.tally_rows.specs.Row.{row_key_of, combined, shifted_row}
use Rattle.segment_blocks.specs.PackedRows.{AreInOrder}
use Rattle.segment_blocks.specs.Walk.{is_below, is_from, is_within}
use Rattle.segment_blocks.proofs.KeyLemmas.{key_order, Rise, Rise-from_sorted, AreBelow, AreNotBelow, not_below-behind, below-chain}
use Rattle.segment_merge.specs.Merged.{merged}
use Rattle.segment_merge.specs.Ranges.{merged_within, merged_ranges, rows_of_ranges, AreRising, begin_of}
use Rattle.segment_merge.proofs.MergedLemmas.{merged-nil_left, merged-nil_right, merged-less, merged-equal, merged-greater}

-- ---- rows that pass a test

abbrev kept_by : (test : Row → Bool) → Row → List Row → Bool → List Row
kept_by test row rows b = cond b (row ∷ filter test rows) (filter test rows)

pub All-filter : (P : Row → Type 0) (test : Row → Bool) (rows : List Row) → AllByRecursion P rows → AllByRecursion P (filter test rows)
All-filter P test [] h = tt
All-filter P test (row ∷ rows) h = by (test row) (All-filter P test rows h.1)
  where
    by : (b : Bool) → AllByRecursion P (filter test rows) → AllByRecursion P (kept_by test row rows b)
    by true next = (h.0, next)
    by false next = next

above-filter : (x : RowKey) (test : Row → Bool) (rows : List Row) → AllByRecursion (λ p. row_order x p ≡ Less) (map row_key_of rows)
    → AllByRecursion (λ p. row_order x p ≡ Less) (map row_key_of (filter test rows))
above-filter x test [] h = tt
above-filter x test (row ∷ rows) h = by (test row) (above-filter x test rows h.1)
  where
    by : (b : Bool) → AllByRecursion (λ p. row_order x p ≡ Less) (map row_key_of (filter test rows))
        → AllByRecursion (λ p. row_order x p ≡ Less) (map row_key_of (kept_by test row rows b))
    by true next = (h.0, next)
    by false next = next

pub in_order-filter : (test : Row → Bool) (rows : List Row) → AreInOrder rows → AreInOrder (filter test rows)
unfolding IsStrictlySortedBy
in_order-filter test [] h = tt
in_order-filter test (row ∷ rows) h = by (test row) (in_order-filter test rows h.1)
  where
    by : (b : Bool) → AreInOrder (filter test rows) → AreInOrder (kept_by test row rows b)
    by true next = (above-filter (row_key_of row) test rows h.0, next)
    by false next = next

-- ---- shifted rows of a range

within-shifted : (from below : Option (List ℕ)) (by : ℕ) (row : Row) → is_within from below (shifted_row by row) ≡ is_within from below row
unfolding shifted_row
within-shifted None None by row = refl
within-shifted None (Some key) by row = refl
within-shifted (Some first) None by row = refl
within-shifted (Some first) (Some key) by row = refl

pub filter-shifted : (from below : Option (List ℕ)) (by : ℕ) (rows : List Row)
    → filter (is_within from below) (map (shifted_row by) rows) ≡ map (shifted_row by) (filter (is_within from below) rows)
filter-shifted from below by [] = refl
filter-shifted from below by (row ∷ rows) =
    ap (kept_by (is_within from below) (shifted_row by row) (map (shifted_row by) rows)) (within-shifted from below by row)
    ∙ cases (is_within from below row) (filter-shifted from below by rows)
  where
    cases : (b : Bool) → filter (is_within from below) (map (shifted_row by) rows) ≡ map (shifted_row by) (filter (is_within from below) rows)
        → kept_by (is_within from below) (shifted_row by row) (map (shifted_row by) rows) b ≡ map (shifted_row by) (kept_by (is_within from below) row rows b)
    cases true next = ap (λ l. shifted_row by row ∷ l) next
    cases false next = next

-- ---- rows below a key, and the others

module _ (key : List ℕ) where
  abbrev is_above : Row → Bool
  is_above row = not (is_below key row)

  below-kept : (rows : List Row) → AreBelow key (filter (is_below key) rows)
  below-kept [] = tt
  below-kept (row ∷ rows) = by (is_below key row) refl (below-kept rows)
    where
      by : (b : Bool) → is_below key row ≡ b → AreBelow key (filter (is_below key) rows) → AreBelow key (kept_by (is_below key) row rows b)
      by true e next = (e, next)
      by false e next = next

  above-kept : (rows : List Row) → AreNotBelow key (filter is_above rows)
  above-kept [] = tt
  above-kept (row ∷ rows) = by (is_below key row) refl (above-kept rows)
    where
      by : (b : Bool) → is_below key row ≡ b → AreNotBelow key (filter is_above rows) → AreNotBelow key (kept_by is_above row rows (not b))
      by true e next = next
      by false e next = (e, next)

  none-below : (rows : List Row) → AreNotBelow key rows → filter (is_below key) rows ≡ []
  none-below [] h = refl
  none-below (row ∷ rows) h = ap (kept_by (is_below key) row rows) h.0 ∙ none-below rows h.1

  all-above : (rows : List Row) → AreNotBelow key rows → filter is_above rows ≡ rows
  all-above [] h = refl
  all-above (row ∷ rows) h = ap (λ b. kept_by is_above row rows (not b)) h.0 ∙ ap (λ l. row ∷ l) (all-above rows h.1)

  parted : (rows : List Row) → Rise rows → rows ≡ filter (is_below key) rows ++ filter is_above rows
  parted [] h = refl
  parted (row ∷ rows) h = by (is_below key row) refl (parted rows h.1)
    where
      by : (b : Bool) → is_below key row ≡ b → rows ≡ filter (is_below key) rows ++ filter is_above rows
          → row ∷ rows ≡ kept_by (is_below key) row rows (is_below key row) ++ kept_by is_above row rows (not (is_below key row))
      by true e next =
          ap (λ l. row ∷ l) next
          ∙ sym (ap (λ b. kept_by (is_below key) row rows b ++ kept_by is_above row rows (not b)) e)
      by false e next =
          let behind = not_below-behind key row rows h e in
          sym (λ i. none-below (row ∷ rows) behind i ++ all-above (row ∷ rows) behind i)

  key-less : (a b : Row) → is_below key a ≡ true → is_below key b ≡ false → key_order a.key b.key ≡ Less
  key-less a b e f = by (key_order a.key b.key) refl
    where
      by : (o : Ordering) → key_order a.key b.key ≡ o → o ≡ Less
      by Less d = refl
      by Equal d = absurd (true≢false (sym (ap is_lt (sym (nat_list_cmp_total.congr a.key b.key key d)) ∙ e) ∙ f))
      by Greater d =
          let back : key_order b.key a.key ≡ Less = nat_list_cmp_total.antisymm b.key a.key ∙ ap ordering_reverse d in
          absurd (true≢false (sym (below-chain b.key a.key key (ap is_gt back) e) ∙ f))

  -- a row below the key stands before one that is not below it
  apart : (a b : Row) → is_below key a ≡ true → is_below key b ≡ false → row_order (row_key_of a) (row_key_of b) ≡ Less
  unfolding row_order
  apart a b e f = then-less (key_order a.key b.key) _ (key-less a b e f)

  apart-greater : (a b : Row) → is_below key a ≡ true → is_below key b ≡ false → row_order (row_key_of b) (row_key_of a) ≡ Greater
  apart-greater a b e f = row_order-total.antisymm (row_key_of b) (row_key_of a) ∙ ap ordering_reverse (apart a b e f)

  module _ (ms ns : List Row) (m_not : AreNotBelow key ms) (n_not : AreNotBelow key ns) where
    right-only : (rs : List Row) → AreBelow key rs → (zs : List Row) → AreNotBelow key zs → merged zs (rs ++ ns) ≡ rs ++ merged zs ns
    right-only [] h zs z = refl
    right-only (r ∷ rs) h [] z = merged-nil_left (r ∷ (rs ++ ns)) ∙ ap (λ l. r ∷ (rs ++ l)) (sym (merged-nil_left ns))
    right-only (r ∷ rs) h (z ∷ zs) n = merged-greater z zs r (rs ++ ns) (apart-greater r z h.0 n.0) ∙ ap (λ l. r ∷ l) (right-only rs h.1 (z ∷ zs) n)

    left-only : (ls : List Row) → AreBelow key ls → (zs : List Row) → AreNotBelow key zs → merged (ls ++ ms) zs ≡ ls ++ merged ms zs
    left-only [] h zs z = refl
    left-only (l ∷ ls) h [] z = merged-nil_right (l ∷ (ls ++ ms)) ∙ ap (λ k. l ∷ (ls ++ k)) (sym (merged-nil_right ms))
    left-only (l ∷ ls) h (z ∷ zs) n = merged-less l (ls ++ ms) z zs (apart l z h.0 n.0) ∙ ap (λ k. l ∷ k) (left-only ls h.1 (z ∷ zs) n)

    merged-append : (ls rs : List Row) → AreBelow key ls → AreBelow key rs → merged (ls ++ ms) (rs ++ ns) ≡ merged ls rs ++ merged ms ns
    merged-append [] rs a b = right-only rs b ms m_not ∙ ap (λ l. l ++ merged ms ns) (sym (merged-nil_left rs))
    merged-append (l ∷ ls) rs a b = among (λ rs b. merged-append ls rs a.1 b) rs b
      where
        among : ((rs : List Row) → AreBelow key rs → merged (ls ++ ms) (rs ++ ns) ≡ merged ls rs ++ merged ms ns)
            → (rs : List Row) → AreBelow key rs → merged (l ∷ (ls ++ ms)) (rs ++ ns) ≡ merged (l ∷ ls) rs ++ merged ms ns
        among next [] b = left-only (l ∷ ls) a ns n_not ∙ ap (λ k. k ++ merged ms ns) (sym (merged-nil_right (l ∷ ls)))
        among next (r ∷ rs) b = by (row_order (row_key_of l) (row_key_of r)) refl (among next rs b.1)
          where
            by : (o : Ordering) → row_order (row_key_of l) (row_key_of r) ≡ o
                → merged (l ∷ (ls ++ ms)) (rs ++ ns) ≡ merged (l ∷ ls) rs ++ merged ms ns
                → merged (l ∷ (ls ++ ms)) (r ∷ (rs ++ ns)) ≡ merged (l ∷ ls) (r ∷ rs) ++ merged ms ns
            by Less e there =
                merged-less l (ls ++ ms) r (rs ++ ns) e ∙ ap (λ k. l ∷ k) (next (r ∷ rs) b) ∙ ap (λ k. k ++ merged ms ns) (sym (merged-less l ls r rs e))
            by Equal e there =
                merged-equal l (ls ++ ms) r (rs ++ ns) e ∙ ap (λ k. combined l r ∷ k) (next rs b.1) ∙ ap (λ k. k ++ merged ms ns) (sym (merged-equal l ls r rs e))
            by Greater e there =
                merged-greater l (ls ++ ms) r (rs ++ ns) e ∙ ap (λ k. r ∷ k) there ∙ ap (λ k. k ++ merged ms ns) (sym (merged-greater l ls r rs e))

  merged-cut : (ls rs : List Row) → Rise ls → Rise rs
      → merged ls rs ≡ merged (filter (is_below key) ls) (filter (is_below key) rs) ++ merged (filter is_above ls) (filter is_above rs)
  merged-cut ls rs a b =
      (λ i. merged (parted ls a i) (parted rs b i))
      ∙ merged-append (filter is_above ls) (filter is_above rs) (above-kept ls) (above-kept rs) (filter (is_below key) ls) (filter (is_below key) rs)
      (below-kept ls) (below-kept rs)

-- ---- ranges

lt_le : (r a b : List ℕ) → is_lt (key_order r a) ≡ true → is_gt (key_order a b) ≡ false → is_lt (key_order r b) ≡ true
lt_le r a b = by (key_order r a) (key_order a b) refl refl
  where
    by : (p q : Ordering) → key_order r a ≡ p → key_order a b ≡ q → is_lt p ≡ true → is_gt q ≡ false → is_lt (key_order r b) ≡ true
    by Less Less p q h k = ap is_lt (nat_list_cmp_total.trans r a b p q)
    by Less Equal p q h k =
        ap is_lt (nat_list_cmp_total.antisymm r b ∙ ap ordering_reverse (sym (nat_list_cmp_total.congr a b r q) ∙ nat_list_cmp_total.antisymm a r ∙ ap ordering_reverse p))
    by Less Greater p q h k = absurd (true≢false k)
    by Equal q p s h k = absurd (true≢false (sym h))
    by Greater q p s h k = absurd (true≢false (sym h))

-- a range that may begin at a key begins at none above another key
abbrev Before : Option (List ℕ) → List ℕ → Type 0
Before None key = Unit {0}
Before (Some first) key = is_gt (key_order first key) ≡ false

from-above : (from : Option (List ℕ)) (key : List ℕ) → Before from key → (row : Row) → is_from from row && not (is_below key row) ≡ not (is_below key row)
from-above None key before row = refl
from-above (Some first) key before row = by (is_below first row) (is_below key row) refl refl
  where
    by : (b c : Bool) → is_below first row ≡ b → is_below key row ≡ c → not b && not c ≡ not c
    by true true e f = refl
    by true false e f = absurd (true≢false (sym (lt_le row.key first key e before) ∙ f))
    by false c e f = refl

module _ (ls rs : List Row) (left : AreInOrder ls) (right : AreInOrder rs) where
  abbrev kept : Option (List ℕ) → List Row
  kept from = merged (filter (is_from from) ls) (filter (is_from from) rs)

  last : (from : Option (List ℕ)) → rows_of_ranges (merged_ranges from [] ls rs) ≡ kept from
  last from =
      append-nil (merged_within from None ls rs)
      ∙ ap (λ test. merged (filter test ls) (filter test rs)) (λ i row. and-true (is_from from row) i)
    where
      and-true : (b : Bool) → b && true ≡ b
      and-true true = refl
      and-true false = refl

  next : (from : Option (List ℕ)) (key : List ℕ) → Before from key → merged_within from (Some key) ls rs ++ kept (Some key) ≡ kept from
  next from key before =
      sym (
      merged-cut key (filter (is_from from) ls) (filter (is_from from) rs)
      (Rise-from_sorted (filter (is_from from) ls) (in_order-filter (is_from from) ls left))
      (Rise-from_sorted (filter (is_from from) rs) (in_order-filter (is_from from) rs right))
      ∙ (λ i. merged (filter-both (is_from from) (is_below key) ls i) (filter-both (is_from from) (is_below key) rs i)
      ++ merged (above ls i) (above rs i))
      )
    where
      above : (rows : List Row) → filter (λ row. not (is_below key row)) (filter (is_from from) rows) ≡ filter (is_from (Some key)) rows
      above rows =
          filter-both (is_from from) (λ row. not (is_below key row)) rows
          ∙ ap (λ test. filter test rows) (λ i row. from-above from key before row i)

  later : (first : List ℕ) (keys : List (List ℕ)) → AreRising (first ∷ keys)
      → rows_of_ranges (merged_ranges (Some first) keys ls rs) ≡ kept (Some first)
  later first [] h = last (Some first)
  later first (key ∷ keys) h =
      ap (λ l. merged_within (Some first) (Some key) ls rs ++ l) (later key keys h.1) ∙ next (Some first) key h.0

  pub ranges-all : (keys : List (List ℕ)) → AreRising keys → rows_of_ranges (merged_ranges None keys ls rs) ≡ merged ls rs
  ranges-all [] h = last None ∙ (λ i. merged (filter-all ls i) (filter-all rs i))
  ranges-all (key ∷ keys) h =
      ap (λ l. merged_within None (Some key) ls rs ++ l) (later key keys h) ∙ next None key tt
      ∙ (λ i. merged (filter-all ls i) (filter-all rs i))

pub length-ranges : (from : Option (List ℕ)) (keys : List (List ℕ)) (ls rs : List Row) → length (merged_ranges from keys ls rs) ≡ length keys + 1
length-ranges from [] ls rs = omega arith
length-ranges from (key ∷ keys) ls rs = omega (arith, length-ranges (Some key) keys ls rs)

-- ---- one of the ranges, by its bounds

later-range : (first : List ℕ) (keys : List (List ℕ)) (n : ℕ) (ls rs : List Row) → n ≤ length keys
    → get_or (merged_ranges (Some first) keys ls rs) n [] ≡ merged_within (slice_get (first ∷ keys) n) (slice_get keys n) ls rs
later-range first [] zero ls rs le = refl
later-range first [] (suc n) ls rs le = absurd (omega arith)
later-range first (key ∷ keys) zero ls rs le = refl
later-range first (key ∷ keys) (suc n) ls rs le = later-range key keys n ls rs (omega arith)

pub one-range : (keys : List (List ℕ)) (n : ℕ) (ls rs : List Row) → n ≤ length keys
    → get_or (merged_ranges None keys ls rs) n [] ≡ merged_within (begin_of keys n) (slice_get keys n) ls rs
one-range [] zero ls rs le = refl
one-range [] (suc n) ls rs le = absurd (omega arith)
one-range (key ∷ keys) zero ls rs le = refl
one-range (key ∷ keys) (suc n) ls rs le = later-range key keys n ls rs (omega arith)

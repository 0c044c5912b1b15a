-- Rows in the order of their keys, and where a key stands among them.
use Rattle.std.proofs.Common.{◌≡◌, ℕ, Bool, true, false, cond, not, Option, None, Some, List, [], ◌∷◌, ◌++◌, map, filter, bytes_eq, refl, sym, ap, subst, ◌∙◌, true≢false}
use Rattle.std.specs.List.{AllByRecursion}
use Rattle.std.specs.List.Sorted.{IsStrictlySortedBy}
use Rattle.std.specs.declared.cmp.Ordering.{Ordering}
use Rattle.std.specs.declared.cmp.Ordering.TheVariants.{Less, Equal, Greater}
use Rattle.std.specs.Ordering.{nat_cmp, ordering_then, is_lt, is_gt}
use Rattle.std.specs.Cmp.{tied_itself}
use Rattle.std.specs.Cmp.Lexicographic.{slice_cmp, nat_list_cmp_total, bytes_decides}
use Rattle.std.specs.FinMap.{nat_cmp-IsAntisymmetric, slice_cmp-IsAntisymmetric}
use Rattle.plain_laws.specs.Lists.{filter-all, filter-both}
use Rattle.tally_rows.specs.declared.row_key.RowKey.{RowKey}
use Rattle.tally_rows.specs.declared.row.Row.{Row}
use Rattle.tally_rows.specs.RowKey.{row_order}
use Rattle.tally_rows.specs.Row.{row_key_of}
use Rattle.segment_blocks.specs.PackedRows.{AreInOrder}
use Rattle.segment_blocks.specs.Walk.{is_below, is_from, is_before, is_within, has_key, from_key, until_key, from_bound, until_bound, at_key}

abbrev pub key_order : List ℕ → List ℕ → Ordering
key_order = slice_cmp nat_cmp

-- ---- keys in order

pub first-less : (a b : RowKey) → row_order a b ≡ Less → is_gt (key_order a.key b.key) ≡ false
unfolding row_order
first-less a b e = first (key_order a.key b.key) _ e
  where
    first : (p q : Ordering) → ordering_then p q ≡ Less → is_gt p ≡ false
    first Less q e = refl
    first Equal q e = refl
    first Greater q e = cc

pub below-chain : (a b key : List ℕ) → is_gt (key_order a b) ≡ false → is_lt (key_order b key) ≡ true → is_lt (key_order a key) ≡ true
below-chain a b key = by (key_order a b) (key_order b key) refl refl
  where
    by : (p q : Ordering) → key_order a b ≡ p → key_order b key ≡ q → is_gt p ≡ false → is_lt q ≡ true → is_lt (key_order a key) ≡ true
    by Less Less p q h k = ap is_lt (nat_list_cmp_total.trans a b key p q)
    by Equal Less p q h k = ap is_lt (nat_list_cmp_total.congr a b key p ∙ q)
    by Greater q p r h k = absurd (true≢false h)
    by p Equal r q h k = absurd (true≢false (sym k))
    by p Greater r q h k = absurd (true≢false (sym k))

-- no key behind another one is less
abbrev pub Rise : List Row → Type 0
Rise [] = Unit {0}
Rise (row ∷ rows) = AllByRecursion (λ r. is_gt (key_order row.key r.key) ≡ false) rows × Rise rows

pub Rise-from_sorted : (rows : List Row) → AreInOrder rows → Rise rows
unfolding IsStrictlySortedBy
Rise-from_sorted [] h = tt
Rise-from_sorted (row ∷ rows) h = (each rows h.0, Rise-from_sorted rows h.1)
  where
    each : (rs : List Row) → AllByRecursion (λ p. row_order (row_key_of row) p ≡ Less) (map row_key_of rs) → AllByRecursion (λ r. is_gt (key_order row.key r.key) ≡ false) rs
    each [] h = tt
    each (r ∷ rs) h = (first-less (row_key_of row) (row_key_of r) h.0, each rs h.1)

module _ (P : Row → Type 0) where
  pub All-left : (xs ys : List Row) → AllByRecursion P (xs ++ ys) → AllByRecursion P xs
  All-left [] ys h = tt
  All-left (x ∷ xs) ys h = (h.0, All-left xs ys h.1)

  pub All-right : (xs ys : List Row) → AllByRecursion P (xs ++ ys) → AllByRecursion P ys
  All-right [] ys h = h
  All-right (x ∷ xs) ys h = All-right xs ys h.1

pub Rise-right : (xs ys : List Row) → Rise (xs ++ ys) → Rise ys
Rise-right [] ys h = h
Rise-right (x ∷ xs) ys h = Rise-right xs ys h.1

abbrev pub AreBelow : List ℕ → List Row → Type 0
AreBelow key rows = AllByRecursion (λ r. is_below key r ≡ true) rows

abbrev pub AreNotBelow : List ℕ → List Row → Type 0
AreNotBelow key rows = AllByRecursion (λ r. is_below key r ≡ false) rows

module _ (key : List ℕ) where
  -- rows before one that is below the key are below it
  pub below-before : (xs : List Row) (row : Row) (ys : List Row) → Rise (xs ++ row ∷ ys) → is_below key row ≡ true → AreBelow key xs
  below-before [] row ys h e = tt
  below-before (x ∷ xs) row ys h e =
      let gt = All-right (λ r. is_gt (key_order x.key r.key) ≡ false) xs (row ∷ ys) h.0 in
      (below-chain x.key row.key key gt.0 e, below-before xs row ys h.1 e)

  -- rows behind one that is not below the key are not below it
  not_below-each : (row : Row) (ys : List Row) → AllByRecursion (λ r. is_gt (key_order row.key r.key) ≡ false) ys → is_below key row ≡ false → AreNotBelow key ys
  not_below-each row [] h e = tt
  not_below-each row (y ∷ ys) h e = (other (is_below key y) refl, not_below-each row ys h.1 e)
    where
      other : (b : Bool) → is_below key y ≡ b → is_below key y ≡ false
      other true d = absurd (true≢false (sym (below-chain row.key y.key key h.0 d) ∙ e))
      other false d = d

  pub not_below-behind : (row : Row) (ys : List Row) → Rise (row ∷ ys) → is_below key row ≡ false → AreNotBelow key (row ∷ ys)
  not_below-behind row ys h e = (e, not_below-each row ys h.0 e)

  -- ---- the rows from a key on

  pub from_key-below : (row : Row) (rows : List Row) → is_below key row ≡ true → from_key key (row ∷ rows) ≡ from_key key rows
  unfolding from_key
  from_key-below row rows e = ap (λ b. cond b (from_key key rows) (row ∷ rows)) e

  pub from_key-not : (row : Row) (rows : List Row) → is_below key row ≡ false → from_key key (row ∷ rows) ≡ row ∷ rows
  unfolding from_key
  from_key-not row rows e = ap (λ b. cond b (from_key key rows) (row ∷ rows)) e

  pub from_key-nil : from_key key [] ≡ []
  unfolding from_key
  from_key-nil = refl

  pub from_key-early : (xs ys : List Row) → AreBelow key xs → from_key key (xs ++ ys) ≡ from_key key ys
  from_key-early [] ys h = refl
  from_key-early (x ∷ xs) ys h = from_key-below x (xs ++ ys) h.0 ∙ from_key-early xs ys h.1

  pub from_key-all : (ys : List Row) → AreNotBelow key ys → from_key key ys ≡ ys
  from_key-all [] h = from_key-nil
  from_key-all (y ∷ ys) h = from_key-not y ys h.0

  pub from_key-late : (xs ys : List Row) → AreNotBelow key ys → from_key key (xs ++ ys) ≡ from_key key xs ++ ys
  from_key-late [] ys h = from_key-all ys h ∙ ap (λ l. l ++ ys) (sym from_key-nil)
  from_key-late (x ∷ xs) ys h = by (is_below key x) refl (from_key-late xs ys h)
    where
      by : (b : Bool) → is_below key x ≡ b → from_key key (xs ++ ys) ≡ from_key key xs ++ ys → from_key key (x ∷ xs ++ ys) ≡ from_key key (x ∷ xs) ++ ys
      by true e next = from_key-below x (xs ++ ys) e ∙ next ∙ ap (λ l. l ++ ys) (sym (from_key-below x xs e))
      by false e next = from_key-not x (xs ++ ys) e ∙ ap (λ l. l ++ ys) (sym (from_key-not x xs e))

  -- ---- as filters

  filter-not_below : (ys : List Row) → AreNotBelow key ys → filter (λ r. not (is_below key r)) ys ≡ ys
  filter-not_below [] h = refl
  filter-not_below (y ∷ ys) h =
      ap (λ b. cond (not b) (y ∷ filter (λ r. not (is_below key r)) ys) (filter (λ r. not (is_below key r)) ys)) h.0
      ∙ ap (λ l. y ∷ l) (filter-not_below ys h.1)

  pub from_key-filter : (rows : List Row) → Rise rows → from_key key rows ≡ filter (λ r. not (is_below key r)) rows
  from_key-filter [] h = from_key-nil
  from_key-filter (row ∷ rows) h = by (is_below key row) refl (from_key-filter rows h.1)
    where
      kept : Bool → List Row
      kept b = cond (not b) (row ∷ filter (λ r. not (is_below key r)) rows) (filter (λ r. not (is_below key r)) rows)

      by : (b : Bool) → is_below key row ≡ b → from_key key rows ≡ filter (λ r. not (is_below key r)) rows
          → from_key key (row ∷ rows) ≡ filter (λ r. not (is_below key r)) (row ∷ rows)
      by true e next = from_key-below row rows e ∙ next ∙ ap kept (sym e)
      by false e next = from_key-not row rows e ∙ sym (filter-not_below (row ∷ rows) (not_below-behind row rows h e))

  -- ---- the rows of a key

  same : (a b : List ℕ) → key_order a b ≡ Equal → a ≡ b
  same = slice_cmp-IsAntisymmetric nat_cmp-IsAntisymmetric

  not_here : (row : Row) → (row.key ≡ key → ⊥) → has_key key row ≡ false
  not_here row differ = by (bytes_eq row.key key) refl
    where
      by : (b : Bool) → bytes_eq row.key key ≡ b → b ≡ false
      by true e = absurd (differ ((bytes_decides row.key key).0 e))
      by false e = refl

  tied : (row : Row) → row.key ≡ key → key_order row.key key ≡ Equal
  tied row e = ap (λ k. key_order row.key k) (sym e) ∙ tied_itself nat_list_cmp_total row.key

  below-not_here : (row : Row) → is_below key row ≡ true → has_key key row ≡ false
  below-not_here row e = not_here row (λ d. true≢false (sym e ∙ ap is_lt (tied row d)))

  -- behind a row whose key is greater no row has the key
  greater-chain : (a b : List ℕ) → is_gt (key_order a b) ≡ false → key_order a key ≡ Greater → key_order b key ≡ Equal → ⊥
  greater-chain a b h g e =
      let b_is = same b key e in
      true≢false (sym (ap is_gt (ap (key_order a) b_is ∙ g)) ∙ h)

  none-behind : (row : Row) (ys : List Row) → AllByRecursion (λ r. is_gt (key_order row.key r.key) ≡ false) ys → key_order row.key key ≡ Greater
      → filter (has_key key) ys ≡ []
  none-behind row [] h g = refl
  none-behind row (y ∷ ys) h g =
      ap (λ b. cond b (y ∷ filter (has_key key) ys) (filter (has_key key) ys)) (not_here y (λ d. greater-chain row.key y.key h.0 g (tied y d)))
      ∙ none-behind row ys h.1 g

  pub taken-filter : (rows : List Row) → Rise rows → AreNotBelow key rows → at_key key rows ≡ filter (has_key key) rows
  taken-filter [] h n = refl
  taken-filter (row ∷ rows) h n = by (key_order row.key key) refl (taken-filter rows h.1 n.1)
    where
      taken : Bool → List Row
      taken b = cond b (row ∷ at_key key rows) []

      kept : Bool → List Row
      kept b = cond b (row ∷ filter (has_key key) rows) (filter (has_key key) rows)

      by : (o : Ordering) → key_order row.key key ≡ o → at_key key rows ≡ filter (has_key key) rows
          → at_key key (row ∷ rows) ≡ filter (has_key key) (row ∷ rows)
      by Less e next = absurd (true≢false (sym (ap is_lt e) ∙ n.0))
      by Equal e next =
          let here : has_key key row ≡ true = (bytes_decides row.key key).1 (same row.key key e) in
          ap taken here ∙ ap (λ l. row ∷ l) next ∙ ap kept (sym here)
      by Greater e next =
          let gone : has_key key row ≡ false = not_here row (λ d. greater_not_tied (sym e ∙ tied row d)) in
          ap taken gone ∙ sym (ap kept gone ∙ none-behind row rows h.0 e)
        where
          greater_not_tied : Greater ≡ Equal → ⊥
          greater_not_tied d = cc

  pub at-filter : (rows : List Row) → Rise rows → at_key key (from_key key rows) ≡ filter (has_key key) rows
  at-filter [] h = ap (at_key key) from_key-nil
  at-filter (row ∷ rows) h = by (is_below key row) refl (at-filter rows h.1)
    where
      kept : Bool → List Row
      kept b = cond b (row ∷ filter (has_key key) rows) (filter (has_key key) rows)

      by : (b : Bool) → is_below key row ≡ b → at_key key (from_key key rows) ≡ filter (has_key key) rows
          → at_key key (from_key key (row ∷ rows)) ≡ filter (has_key key) (row ∷ rows)
      by true e next = ap (at_key key) (from_key-below row rows e) ∙ next ∙ ap kept (sym (below-not_here row e))
      by false e next = ap (at_key key) (from_key-not row rows e) ∙ taken-filter (row ∷ rows) h (not_below-behind row rows h e)

-- ---- the rows of a range

module _ (key : List ℕ) where
  pub until_key-below : (row : Row) (rows : List Row) → is_below key row ≡ true → until_key key (row ∷ rows) ≡ row ∷ until_key key rows
  unfolding until_key
  until_key-below row rows e = ap (λ b. cond b (row ∷ until_key key rows) []) e

  pub until_key-not : (row : Row) (rows : List Row) → is_below key row ≡ false → until_key key (row ∷ rows) ≡ []
  unfolding until_key
  until_key-not row rows e = ap (λ b. cond b (row ∷ until_key key rows) []) e

  pub until_key-nil : until_key key [] ≡ []
  unfolding until_key
  until_key-nil = refl

  none-below : (ys : List Row) → AreNotBelow key ys → filter (is_below key) ys ≡ []
  none-below [] h = refl
  none-below (y ∷ ys) h = ap (λ b. cond b (y ∷ filter (is_below key) ys) (filter (is_below key) ys)) h.0 ∙ none-below ys h.1

  pub until_key-filter : (rows : List Row) → Rise rows → until_key key rows ≡ filter (is_below key) rows
  until_key-filter [] h = until_key-nil
  until_key-filter (row ∷ rows) h = by (is_below key row) refl (until_key-filter rows h.1)
    where
      kept : Bool → List Row
      kept b = cond b (row ∷ filter (is_below key) rows) (filter (is_below key) rows)

      by : (b : Bool) → is_below key row ≡ b → until_key key rows ≡ filter (is_below key) rows
          → until_key key (row ∷ rows) ≡ filter (is_below key) (row ∷ rows)
      by true e next = until_key-below row rows e ∙ ap (λ l. row ∷ l) next ∙ ap kept (sym e)
      by false e next = until_key-not row rows e ∙ sym (none-below (row ∷ rows) (not_below-behind key row rows h e))

  All-from_key : (P : Row → Type 0) (rows : List Row) → AllByRecursion P rows → AllByRecursion P (from_key key rows)
  All-from_key P [] h = subst (AllByRecursion P) (sym (from_key-nil key)) tt
  All-from_key P (row ∷ rows) h = by (is_below key row) refl (All-from_key P rows h.1)
    where
      by : (b : Bool) → is_below key row ≡ b → AllByRecursion P (from_key key rows) → AllByRecursion P (from_key key (row ∷ rows))
      by true e next = subst (AllByRecursion P) (sym (from_key-below key row rows e)) next
      by false e next = subst (AllByRecursion P) (sym (from_key-not key row rows e)) h

  Rise-from_key : (rows : List Row) → Rise rows → Rise (from_key key rows)
  Rise-from_key [] h = subst Rise (sym (from_key-nil key)) tt
  Rise-from_key (row ∷ rows) h = by (is_below key row) refl (Rise-from_key rows h.1)
    where
      by : (b : Bool) → is_below key row ≡ b → Rise (from_key key rows) → Rise (from_key key (row ∷ rows))
      by true e next = subst Rise (sym (from_key-below key row rows e)) next
      by false e next = subst Rise (sym (from_key-not key row rows e)) h

pub from_bound-filter : (from : Option (List ℕ)) (rows : List Row) → Rise rows → from_bound from rows ≡ filter (is_from from) rows
from_bound-filter None rows h = sym (filter-all rows)
from_bound-filter (Some key) rows h = from_key-filter key rows h

until_bound-filter : (below : Option (List ℕ)) (rows : List Row) → Rise rows → until_bound below rows ≡ filter (is_before below) rows
until_bound-filter None rows h = sym (filter-all rows)
until_bound-filter (Some key) rows h = until_key-filter key rows h

Rise-from_bound : (from : Option (List ℕ)) (rows : List Row) → Rise rows → Rise (from_bound from rows)
Rise-from_bound None rows h = h
Rise-from_bound (Some key) rows h = Rise-from_key key rows h

pub within-filter : (from below : Option (List ℕ)) (rows : List Row) → Rise rows
    → until_bound below (from_bound from rows) ≡ filter (is_within from below) rows
within-filter from below rows h =
    until_bound-filter below (from_bound from rows) (Rise-from_bound from rows h)
    ∙ ap (filter (is_before below)) (from_bound-filter from rows h) ∙ filter-both (is_from from) (is_before below) rows

-- Rows of ranges of keys that follow one another.
use Rattle.std.proofs.Common.{◌≡◌, ℕ, ◌<◌, ◌≤◌, Bool, true, false, true≢false, ◌&&◌, cond, Some, None, List, [], ◌∷◌, ◌++◌, map, drop, refl, sym, ap, subst, ◌∙◌, arith}
use Rattle.std.specs.Prelude.{nat_lt, nat_le}
use Rattle.std.specs.List.{Any, Contains, AllByRecursion, AllZip, flat_map, filter}
use Rattle.std.specs.List.Sorted.{IsStrictlySortedBy}
use Rattle.std.specs.declared.cmp.Ordering.{Ordering}
use Rattle.std.specs.declared.cmp.Ordering.TheVariants.{Less}
use Rattle.std.specs.Ordering.{nat_cmp, ordering_then}
use Rattle.std.specs.Cmp.{nat_cmp_is}
use Rattle.std.specs.Cmp.Lexicographic.{slice_cmp}
use Rattle.std.proofs.lemmas.Bool.{and_from, le-leb}
use Rattle.std.proofs.lemmas.Bool.Decides.{nat_tests}
use Rattle.std.proofs.lemmas.List.{append-nil, map-append}
use Rattle.std.proofs.lemmas.List.Elements.{All-append, recursion_from_All, filter_passes}
use Rattle.std.proofs.Math.Bool.{and-true}
use Rattle.plain_laws.specs.Orderings.{then-less}
use Rattle.tally_rows.specs.declared.key_range.KeyRange.{KeyRange}
use Rattle.tally_rows.specs.declared.row.Row.{Row}
use Rattle.tally_rows.specs.declared.row_key.RowKey.{RowKey}
use Rattle.tally_rows.specs.declared.single.Single.{Single}
use Rattle.tally_rows.specs.Games.{singles_from}
use Rattle.tally_rows.specs.Row.{row_key_of}
use Rattle.tally_rows.specs.RowKey.{row_order, same_row_key}
use Rattle.tally_rows.specs.Tallied.{IsTally, Tallied}
use Rattle.tally_rows.specs.Track.{Track, has}
use Rattle.tally_rows.specs.Within.{AreSinglesWithin, IsKey, TalliedWithin, first_word, is_word_below, is_in_range, FollowFrom}
use Rattle.tally_rows.proofs.EntryOrder.{spelled_cmp}
use Rattle.tally_rows.proofs.Members.{All-from_IsIn, All-IsIn, IsIn-from_Contains, Contains-IsIn, IsIn-append_left, IsIn-append_right}
use Rattle.tally_rows.proofs.RowOrder.{same_row_key-is}
use Rattle.tally_rows.proofs.Singles.{first-visits}

-- ---- the singles in the positions whose key passes

module _ (test : List ℕ → Bool) (c : RowKey) (passes : test c.key ≡ true) where
  same-passes : (s : Single) → same_row_key c s.row_key ≡ true → test s.row_key.key ≡ true
  same-passes s same = ap (λ (k : RowKey). test k.key) (sym (same_row_key-is c s.row_key same)) ∙ passes

  one-kept : (s : Single) (kept rest : List Single) → filter (λ t. same_row_key c t.row_key) kept ≡ rest → (a b : Bool)
      → test s.row_key.key ≡ a → same_row_key c s.row_key ≡ b
      → filter (λ t. same_row_key c t.row_key) (cond (test s.row_key.key) (s ∷ kept) kept) ≡ cond (same_row_key c s.row_key) (s ∷ rest) rest
  one-kept s kept rest is true b e f =
      ap (λ (t : Bool). filter (λ (u : Single). same_row_key c u.row_key) (cond t (s ∷ kept) kept)) e
      ∙ ap (λ (l : List Single). cond (same_row_key c s.row_key) (s ∷ l) l) is
  one-kept s kept rest is false true e f = absurd (true≢false (sym (same-passes s f) ∙ e))
  one-kept s kept rest is false false e f =
      ap (λ (t : Bool). filter (λ (u : Single). same_row_key c u.row_key) (cond t (s ∷ kept) kept)) e
      ∙ is
      ∙ sym (ap (λ (t : Bool). cond t (s ∷ rest) rest) f)

  -- none that has the parts is left out
  kept-at : (singles : List Single)
      → filter (λ s. same_row_key c s.row_key) (filter (λ s. test s.row_key.key) singles) ≡ filter (λ s. same_row_key c s.row_key) singles
  kept-at [] = refl
  kept-at (s ∷ ss) = one-kept s (filter (λ t. test t.row_key.key) ss) _ (kept-at ss) (test s.row_key.key) (same_row_key c s.row_key) refl refl

pub visits-within : (test : List ℕ → Bool) (tracks : List Track)
    → AreSinglesWithin test tracks (filter (λ s. test s.row_key.key) (singles_from 0 tracks))
visits-within test tracks = record {
  at = λ c passes. kept-at test c passes (singles_from 0 tracks) ∙ (first-visits tracks).at c;
  within = filter_passes (λ (s : Single). test s.row_key.key) (singles_from 0 tracks);
}

-- ---- keys with a lesser first word stand before the others

word-less : (a b : List ℕ) → IsKey a → IsKey b → first_word a < first_word b → slice_cmp nat_cmp a b ≡ Less
word-less a b p q less =
    let long = p.long in
    let wide = q.long in
    spelled_cmp 8 0 a b p.bytes q.bytes (omega (arith, long)) (omega (arith, wide))
    ∙ ap (λ (o : Ordering). ordering_then o (slice_cmp nat_cmp (drop 8 a) (drop 8 b))) (sym (nat_cmp_is (first_word a) (first_word b) Less less))

row-less : (x y : Row) → IsKey x.key → IsKey y.key → first_word x.key < first_word y.key → row_order (row_key_of x) (row_key_of y) ≡ Less
unfolding row_order
row-less x y p q less = then-less (slice_cmp nat_cmp x.key y.key) _ (word-less x.key y.key p q less)

-- two strictly sorted lists, of which each row of the first stands before each of the second
sorted-behind : (x : Row) (xs ys : List Row) → AllByRecursion (λ p. row_order (row_key_of x) p ≡ Less) (map row_key_of xs)
    → AllByRecursion (λ y. row_order (row_key_of x) (row_key_of y) ≡ Less) ys
    → AllByRecursion (λ p. row_order (row_key_of x) p ≡ Less) (map row_key_of (xs ++ ys))
sorted-behind x [] [] h k = tt
sorted-behind x [] (y ∷ ys) h k = (k.0, sorted-behind x [] ys tt k.1)
sorted-behind x (z ∷ xs) ys h k = (h.0, sorted-behind x xs ys h.1 k)

sorted-append : (xs ys : List Row) → IsStrictlySortedBy row_order (map row_key_of xs) → IsStrictlySortedBy row_order (map row_key_of ys)
    → AllByRecursion (λ x. AllByRecursion (λ y. row_order (row_key_of x) (row_key_of y) ≡ Less) ys) xs
    → IsStrictlySortedBy row_order (map row_key_of (xs ++ ys))
unfolding IsStrictlySortedBy
sorted-append [] ys h k before = k
sorted-append (x ∷ xs) ys h k before = (sorted-behind x xs ys h.0 before.0, sorted-append xs ys h.1 k before.1)

-- ---- a range and what follows it

abbrev pub is_from : ℕ → List ℕ → Bool
is_from from key = nat_le from (first_word key)

abbrev pub is_between : ℕ → ℕ → List ℕ → Bool
is_between from below key = nat_le from (first_word key) && nat_lt (first_word key) below

between-from : (from below word : ℕ) → (nat_le from word && nat_lt word below) ≡ true → nat_le from word ≡ true
between-from from below word e = grind (arith, nat_tests)

between-below : (from below word : ℕ) → (nat_le from word && nat_lt word below) ≡ true → word < below
between-below from below word e = grind (arith, nat_tests)

from-least : (from word : ℕ) → nat_le from word ≡ true → from ≤ word
from-least from word e = grind (arith, nat_tests)

later-from : (from below word : ℕ) → from ≤ below → nat_le below word ≡ true → nat_le from word ≡ true
later-from from below word le e = grind (arith, nat_tests)

not-below : (word below : ℕ) → nat_lt word below ≡ false → nat_le below word ≡ true
not-below word below e = grind (arith, nat_tests)

module _ (tracks : List Track) (from below : ℕ) (rising : from ≤ below) (first rest : List Row)
    (left : TalliedWithin (is_between from below) tracks first) (right : TalliedWithin (is_from below) tracks rest) where
  before : AllByRecursion (λ x. AllByRecursion (λ y. row_order (row_key_of x) (row_key_of y) ≡ Less) rest) first
  before =
      recursion_from_All (λ x. AllByRecursion (λ y. row_order (row_key_of x) (row_key_of y) ≡ Less) rest) first
      (All-from_IsIn _ first (λ x m.
      recursion_from_All (λ y. row_order (row_key_of x) (row_key_of y) ≡ Less) rest
      (All-from_IsIn _ rest (λ y n.
      (let lesser = between-below from below (first_word x.key) (All-IsIn (λ r. is_between from below r.key ≡ true) first left.within x m) in
      let greater = from-least below (first_word y.key) (All-IsIn (λ r. is_from below r.key ≡ true) rest right.within y n) in
      row-less x y (All-IsIn (λ r. IsKey r.key) first left.keys x m) (All-IsIn (λ r. IsKey r.key) rest right.keys y n)
      (omega (arith, lesser, greater)))))))

  every-both : (c : RowKey) → is_from from c.key ≡ true → Any (λ t. has c t ≡ true) tracks → Contains (map row_key_of (first ++ rest)) c
  every-both c passes any = by (nat_lt (first_word c.key) below) refl
    where
      keys_are : map row_key_of (first ++ rest) ≡ map row_key_of first ++ map row_key_of rest
      keys_are = map-append row_key_of first rest

      by : (b : Bool) → nat_lt (first_word c.key) below ≡ b → Contains (map row_key_of (first ++ rest)) c
      by true e =
          let there = left.every c (and_from (is_from from c.key) (nat_lt (first_word c.key) below) passes e) any in
          subst (λ (ks : List RowKey). Contains ks c) (sym keys_are)
          (Contains-IsIn (map row_key_of first ++ map row_key_of rest) c
          (IsIn-append_left (map row_key_of first) (map row_key_of rest) c (IsIn-from_Contains (map row_key_of first) c there)))
      by false e =
          let there = right.every c (not-below (first_word c.key) below e) any in
          subst (λ (ks : List RowKey). Contains ks c) (sym keys_are)
          (Contains-IsIn (map row_key_of first ++ map row_key_of rest) c
          (IsIn-append_right (map row_key_of first) (map row_key_of rest) c (IsIn-from_Contains (map row_key_of rest) c there)))

  both-ranges : TalliedWithin (is_from from) tracks (first ++ rest)
  both-ranges = record {
    each = All-append (IsTally tracks) first rest left.each right.each;
    some = All-append (λ row. Any (λ t. has (row_key_of row) t ≡ true) tracks) first rest left.some right.some;
    every = every-both;
    within = All-append (λ row. is_from from row.key ≡ true) first rest
        (All-from_IsIn (λ row. is_from from row.key ≡ true) first
        (λ x m. between-from from below (first_word x.key) (All-IsIn (λ r. is_between from below r.key ≡ true) first left.within x m)))
        (All-from_IsIn (λ row. is_from from row.key ≡ true) rest
        (λ y n. later-from from below (first_word y.key) rising (All-IsIn (λ r. is_from below r.key ≡ true) rest right.within y n)));
    keys = All-append (λ row. IsKey row.key) first rest left.keys right.keys;
    ordered = sorted-append first rest left.ordered right.ordered before;
  }

-- ---- all ranges

abbrev pub TalliedIn : List Track → KeyRange → List Row → Type 0
TalliedIn tracks range rows = TalliedWithin (is_in_range range) tracks rows

last-range : (range : KeyRange) (from : ℕ) → range.from ≡ from → range.below ≡ None → is_in_range range ≡ is_from from
last-range range from begins ends =
    (λ i key. nat_le (begins i) (first_word key) && is_word_below (ends i) (first_word key))
    ∙ (λ i key. and-true (nat_le from (first_word key)) i)

one-range : (range : KeyRange) (from below : ℕ) → range.from ≡ from → range.below ≡ Some below → is_in_range range ≡ is_between from below
one-range range from below begins ends = λ i key. nat_le (begins i) (first_word key) && is_word_below (ends i) (first_word key)

ranges-from : (tracks : List Track) (from : ℕ) (ranges : List KeyRange) (parts : List (List Row)) → FollowFrom from ranges
    → AllZip (TalliedIn tracks) ranges parts → TalliedWithin (is_from from) tracks (flat_map (λ rows. rows) parts)
ranges-from tracks from [] parts follow each = absurd follow
ranges-from tracks from (range ∷ []) [] follow each = absurd each
ranges-from tracks from (range ∷ []) (rows ∷ []) follow each =
    let P : List Row → Type 0 = λ l. TalliedWithin (is_from from) tracks l in
    let Q : (List ℕ → Bool) → Type 0 = λ test. TalliedWithin test tracks rows in
    subst P (sym (append-nil rows)) (subst Q (last-range range from follow.0 follow.1) each.0)
ranges-from tracks from (range ∷ []) (rows ∷ other ∷ parts) follow each = absurd each.1
ranges-from tracks from (range ∷ next ∷ ranges) [] follow each = absurd each
ranges-from tracks from (range ∷ next ∷ ranges) (rows ∷ parts) follow each =
    let Q : (List ℕ → Bool) → Type 0 = λ test. TalliedWithin test tracks rows in
    both-ranges tracks from next.from follow.2 rows (flat_map (λ rows. rows) parts)
    (subst Q (one-range range from next.from follow.0 follow.1) each.0)
    (ranges-from tracks next.from (next ∷ ranges) parts follow.3 each.1)

pub ranges-tallied : (tracks : List Track) (ranges : List KeyRange) (parts : List (List Row)) → FollowFrom 0 ranges
    → AllZip (TalliedIn tracks) ranges parts → Tallied tracks (flat_map (λ rows. rows) parts)
ranges-tallied tracks ranges parts follow each =
    let whole = ranges-from tracks 0 ranges parts follow each in
    record {
      each = whole.each;
      some = whole.some;
      every = λ c any. whole.every c (le-leb 0 (first_word c.key) (omega arith)) any;
      ordered = whole.ordered;
    }

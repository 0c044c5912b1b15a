-- Merged rows add up to both lists, and stand in order.
use Rattle.std.proofs.Common.{◌≡◌, ℕ, ◌+◌, ◌<◌, Bool, true, false, cond, None, Some, List, [], ◌∷◌, ◌++◌, map, take, drop, length, refl, sym, ap, subst, ◌∙◌, append-nil, append_assoc, arith}
use Rattle.std.specs.declared.cmp.Ordering.{Ordering}
use Rattle.std.specs.declared.cmp.Ordering.TheVariants.{Less, Equal, Greater}
use Rattle.std.specs.List.{AllByRecursion, count_by}
use Rattle.std.specs.List.Sorted.{IsStrictlySortedBy}
use Rattle.std.specs.Ordering.{ordering_reverse}
use Rattle.std.proofs.lemmas.List.Sums.{sum_by-append}
use Rattle.std.proofs.lemmas.List.Elements.{All-from_recursion, recursion_from_All}
use Rattle.explorer_model.specs.Best.{best, IsStrictTotalOrder}
use Rattle.best_lists.proofs.BestLaws.{best-best}
use Rattle.best_lists.proofs.Same.{ties, best-same}
use Rattle.best_lists.specs.Ranking.{before_by_rating, before_by_month, by_rating_is_order, by_month_is_order, by_rating_keeps, by_month_keeps}
use Rattle.best_lists.specs.declared.entry.Entry.{Entry}
use Rattle.best_lists.specs.Entry.{moved_by}
use Rattle.best_lists.proofs.Entries.{best-moved}
use Rattle.tally_rows.specs.declared.row_key.RowKey.{RowKey}
use Rattle.tally_rows.specs.declared.row.Row.{Row}
use Rattle.tally_rows.specs.Adding.{sum_at, listed_at, SameAt, IsSound}
use Rattle.tally_rows.specs.RowKey.{row_order, row_order-total, same_row_key}
use Rattle.tally_rows.specs.Row.{row_key_of, combined, shifted_row}
use Rattle.tally_rows.proofs.At.{sum_at-cons}
use Rattle.tally_rows.proofs.Bests.{best-left, best-right}
use Rattle.tally_rows.proofs.Combining.{combined-white, combined-draws, combined-black, combined-ratings, combined-row_key}
use Rattle.tally_rows.proofs.RowOrder.{row_order-IsAntisymmetric}
use Rattle.tally_rows.specs.Tallied.{Tallied}
use Rattle.tally_rows.specs.Track.{Track}
use Rattle.tally_rows.proofs.AddsUp.{IsSound-tallied}
use Rattle.tally_rows.proofs.Both.{Tallied-both}
use Rattle.std.proofs.lemmas.List.Concat.{flat_map-append}
use Rattle.std.proofs.lemmas.Option.{same_Some}
use Rattle.segment_blocks.specs.PackedRows.{AreInOrder}
use Rattle.segment_blocks.proofs.OrderLemmas.{in_order-front}
use Rattle.segment_blocks.specs.Moving.{next_row_key}
use Rattle.segment_merge.specs.Merged.{first_by, put_among, merged, next_order}

-- ---- one step

module _ (left : Row) (lefts : List Row) (right : Row) (rights : List Row) where
  step : (o : Ordering) → row_order (row_key_of left) (row_key_of right) ≡ o
      → merged (left ∷ lefts) (right ∷ rights) ≡ first_by o left right (merged lefts (right ∷ rights)) (merged lefts rights) (merged (left ∷ lefts) rights)
  unfolding merged put_among
  step o e = ap (λ p. first_by p left right (merged lefts (right ∷ rights)) (merged lefts rights) (put_among left (merged lefts) rights)) e

  pub merged-less : row_order (row_key_of left) (row_key_of right) ≡ Less → merged (left ∷ lefts) (right ∷ rights) ≡ left ∷ merged lefts (right ∷ rights)
  unfolding first_by
  merged-less e = step Less e

  pub merged-equal : row_order (row_key_of left) (row_key_of right) ≡ Equal → merged (left ∷ lefts) (right ∷ rights) ≡ combined left right ∷ merged lefts rights
  unfolding first_by
  merged-equal e = step Equal e

  pub merged-greater : row_order (row_key_of left) (row_key_of right) ≡ Greater → merged (left ∷ lefts) (right ∷ rights) ≡ right ∷ merged (left ∷ lefts) rights
  unfolding first_by
  merged-greater e = step Greater e

pub merged-nil_left : (rights : List Row) → merged [] rights ≡ rights
unfolding merged
merged-nil_left rights = refl

pub merged-nil_right : (lefts : List Row) → merged lefts [] ≡ lefts
unfolding merged put_among
merged-nil_right [] = refl
merged-nil_right (left ∷ lefts) = ap (λ l. left ∷ l) (merged-nil_right lefts)

-- what holds of merged rows, by the three ways of a step
module _ (P : List Row → List Row → List Row → Type 0)
    (at_left : (rights : List Row) → P [] rights rights)
    (at_right : (left : Row) (lefts : List Row) → P (left ∷ lefts) [] (left ∷ lefts))
    (less : (l : Row) (ls : List Row) (r : Row) (rs : List Row) → row_order (row_key_of l) (row_key_of r) ≡ Less → (m : List Row) → P ls (r ∷ rs) m → P (l ∷ ls) (r ∷ rs) (l ∷ m))
    (equal : (l : Row) (ls : List Row) (r : Row) (rs : List Row) → row_order (row_key_of l) (row_key_of r) ≡ Equal → (m : List Row) → P ls rs m → P (l ∷ ls) (r ∷ rs) (combined l r ∷ m))
    (greater : (l : Row) (ls : List Row) (r : Row) (rs : List Row) → row_order (row_key_of l) (row_key_of r) ≡ Greater → (m : List Row) → P (l ∷ ls) rs m → P (l ∷ ls) (r ∷ rs) (r ∷ m))
  where
    pub merged-ind : (ls rs : List Row) → P ls rs (merged ls rs)
    merged-ind [] rs = subst (P [] rs) (sym (merged-nil_left rs)) (at_left rs)
    merged-ind (l ∷ ls) rs = among (merged-ind ls) rs
      where
        among : ((rs : List Row) → P ls rs (merged ls rs)) → (rs : List Row) → P (l ∷ ls) rs (merged (l ∷ ls) rs)
        among next [] = subst (P (l ∷ ls) []) (sym (merged-nil_right (l ∷ ls))) (at_right l ls)
        among next (r ∷ rs) = by (row_order (row_key_of l) (row_key_of r)) refl (among next rs)
          where
            by : (o : Ordering) → row_order (row_key_of l) (row_key_of r) ≡ o → P (l ∷ ls) rs (merged (l ∷ ls) rs) → P (l ∷ ls) (r ∷ rs) (merged (l ∷ ls) (r ∷ rs))
            by Less e there = subst (P (l ∷ ls) (r ∷ rs)) (sym (merged-less l ls r rs e)) (less l ls r rs e (merged ls (r ∷ rs)) (next (r ∷ rs)))
            by Equal e there = subst (P (l ∷ ls) (r ∷ rs)) (sym (merged-equal l ls r rs e)) (equal l ls r rs e (merged ls rs) (next rs))
            by Greater e there = subst (P (l ∷ ls) (r ∷ rs)) (sym (merged-greater l ls r rs e)) (greater l ls r rs e (merged (l ∷ ls) rs) there)

-- ---- what merged rows add up to

module _ (c : RowKey) where
  here : Row → Bool
  here row = same_row_key c (row_key_of row)

  cond-add : (b : Bool) (m n : ℕ) → cond b (m + n) 0 ≡ cond b m 0 + cond b n 0
  cond-add true m n = refl
  cond-add false m n = refl

  equal-parts : (l r : Row) → row_order (row_key_of l) (row_key_of r) ≡ Equal → row_key_of l ≡ row_key_of r
  equal-parts l r e = row_order-IsAntisymmetric (row_key_of l) (row_key_of r) e

  pub sum_at-merged : (f : Row → ℕ) → ((a b : Row) → f (combined a b) ≡ f a + f b) → (ls rs : List Row)
      → sum_at f c (merged ls rs) ≡ sum_at f c ls + sum_at f c rs
  sum_at-merged f adds =
      merged-ind (λ ls rs m. sum_at f c m ≡ sum_at f c ls + sum_at f c rs)
      (λ rs. omega arith)
      (λ l ls. omega arith)
      (λ l ls r rs e m h. omega (arith, h, sum_at-cons f c l m, sum_at-cons f c l ls))
      (λ l ls r rs e m h. omega (arith, h, both l r e, sum_at-cons f c (combined l r) m, sum_at-cons f c l ls, sum_at-cons f c r rs))
      (λ l ls r rs e m h. omega (arith, h, sum_at-cons f c r m, sum_at-cons f c r rs))
    where
      both : (l r : Row) → row_order (row_key_of l) (row_key_of r) ≡ Equal
          → cond (same_row_key c (row_key_of (combined l r))) (f (combined l r)) 0 ≡ cond (same_row_key c (row_key_of l)) (f l) 0 + cond (same_row_key c (row_key_of r)) (f r) 0
      both l r e =
          ap (λ p. cond (same_row_key c p) (f (combined l r)) 0) (combined-row_key l r)
          ∙ ap (λ n. cond (same_row_key c (row_key_of l)) n 0) (adds l r) ∙ cond-add (same_row_key c (row_key_of l)) (f l) (f r)
          ∙ ap (λ p. cond (same_row_key c (row_key_of l)) (f l) 0 + cond (same_row_key c p) (f r) 0) (equal-parts l r e)

  module _ {before : Entry → Entry → Bool} (order : IsStrictTotalOrder before) where
    -- the lists in the middle may change places
    best-swap : (a b d e : List Entry) → best before 4 (a ++ b ++ (d ++ e)) ≡ best before 4 (a ++ d ++ (b ++ e))
    best-swap a b d e =
        best-same order 4 (a ++ b ++ (d ++ e)) (a ++ d ++ (b ++ e)) (λ x.
        let n = λ (l : List Entry). count_by (ties before x) l in
        let f = λ (y : Entry). cond {A = ℕ} (ties before x y) 1 0 in
        omega (
          arith,
          sum_by-append f (a ++ b) (d ++ e),
          sum_by-append f a b,
          sum_by-append f d e,
          sum_by-append f (a ++ d) (b ++ e),
          sum_by-append f a d,
          sum_by-append f b e,
        ))

    pub listed_at-merged : (f : Row → List Entry) → ((a b : Row) → f (combined a b) ≡ best before 4 (f a ++ f b)) → (ls rs : List Row)
        → best before 4 (listed_at f c (merged ls rs)) ≡ best before 4 (listed_at f c ls ++ listed_at f c rs)
    listed_at-merged f joins =
        merged-ind (λ ls rs m. best before 4 (listed_at f c m) ≡ best before 4 (listed_at f c ls ++ listed_at f c rs))
        (λ rs. refl)
        (λ l ls. ap (best before 4) (sym (append-nil (listed_at f c (l ∷ ls)))))
        (λ l ls r rs e m h.
        best-right order 4 (own l) (listed_at f c m) (listed_at f c ls ++ listed_at f c (r ∷ rs)) h
        ∙ ap (best before 4) (sym (append_assoc (own l) (listed_at f c ls) (listed_at f c (r ∷ rs)))))
        (λ l ls r rs e m h.
        ap (λ p. best before 4 (cond (same_row_key c p) (f (combined l r)) [] ++ listed_at f c m)) (combined-row_key l r)
        ∙ ap (λ k. best before 4 (cond (same_row_key c (row_key_of l)) k [] ++ listed_at f c m)) (joins l r)
        ∙ together (same_row_key c (row_key_of l)) l r (listed_at f c m)
        ∙ ap (λ p. best before 4 (own l ++ cond (same_row_key c p) (f r) [] ++ listed_at f c m)) (equal-parts l r e)
        ∙ best-right order 4 (own l ++ own r) (listed_at f c m) (listed_at f c ls ++ listed_at f c rs) h
        ∙ best-swap (own l) (own r) (listed_at f c ls) (listed_at f c rs))
        (λ l ls r rs e m h.
        best-right order 4 (own r) (listed_at f c m) (listed_at f c (l ∷ ls) ++ listed_at f c rs) h
        ∙ best-swap [] (own r) (listed_at f c (l ∷ ls)) (listed_at f c rs))
      where
        own : Row → List Entry
        own row = cond (same_row_key c (row_key_of row)) (f row) []

        together : (b : Bool) (l r : Row) (rest : List Entry)
            → best before 4 (cond b (best before 4 (f l ++ f r)) [] ++ rest) ≡ best before 4 (cond b (f l) [] ++ cond b (f r) [] ++ rest)
        together true l r rest = best-left order 4 (f l ++ f r) rest
        together false l r rest = refl

-- ---- sound and in order

combined-top : (a b : Row) → (combined a b).top ≡ best before_by_rating 4 (a.top ++ b.top)
unfolding combined
combined-top a b = refl

combined-recent : (a b : Row) → (combined a b).recent ≡ best before_by_month 4 (a.recent ++ b.recent)
unfolding combined
combined-recent a b = refl

IsSound-combined : (a b : Row) → IsSound a → IsSound (combined a b)
IsSound-combined a b h = record {
  some = omega (arith, h.some, combined-white a b, combined-draws a b, combined-black a b);
  top = rw (combined-top a b) (best-best by_rating_is_order 4 (a.top ++ b.top));
  recent = rw (combined-recent a b) (best-best by_month_is_order 4 (a.recent ++ b.recent));
}

pub sound-merged : (ls rs : List Row) → AllByRecursion IsSound ls → AllByRecursion IsSound rs → AllByRecursion IsSound (merged ls rs)
sound-merged =
    merged-ind (λ ls rs m. AllByRecursion IsSound ls → AllByRecursion IsSound rs → AllByRecursion IsSound m)
    (λ rs a b. b)
    (λ l ls a b. a)
    (λ l ls r rs e m h a b. (a.0, h a.1 b))
    (λ l ls r rs e m h a b. (IsSound-combined l r a.0, h a.1 b.1))
    (λ l ls r rs e m h a b. (b.0, h a b.1))

-- the rows stand behind these parts
abbrev pub Above : RowKey → List Row → Type 0
Above x rows = AllByRecursion (λ p. row_order x p ≡ Less) (map row_key_of rows)

Above-less : (x y : RowKey) (rows : List Row) → row_order x y ≡ Less → Above y rows → Above x rows
Above-less x y [] e h = tt
Above-less x y (row ∷ rows) e h = (row_order-total.trans x y (row_key_of row) e h.0, Above-less x y rows e h.1)

in_order-merged-with : (ls rs : List Row) → (AreInOrder ls → AreInOrder rs → AreInOrder (merged ls rs)) × ((x : RowKey) → Above x ls → Above x rs → Above x (merged ls rs))
unfolding IsStrictlySortedBy
in_order-merged-with =
    merged-ind (λ ls rs m. (AreInOrder ls → AreInOrder rs → AreInOrder m) × ((x : RowKey) → Above x ls → Above x rs → Above x m))
    (λ rs. (λ a b. b, λ x a b. b))
    (λ l ls. (λ a b. a, λ x a b. a))
    (λ l ls r rs e m h. (
      λ a b. (h.1 (row_key_of l) a.0 (e, Above-less (row_key_of l) (row_key_of r) rs e b.0), h.0 a.1 b),
      λ x a b. (a.0, h.1 x a.1 b),
    ))
    (λ l ls r rs e m h. (
      λ a b. (subst (λ p. Above p m) (sym (combined-row_key l r)) (h.1 (row_key_of l) a.0 (subst (λ p. Above p rs) (sym (same l r e)) b.0)), h.0 a.1 b.1),
      λ x a b. (subst (λ p. row_order x p ≡ Less) (sym (combined-row_key l r)) a.0, h.1 x a.1 b.1),
    ))
    (λ l ls r rs e m h. (
      λ a b.
          let back = reversed l r e in
          (h.1 (row_key_of r) (back, Above-less (row_key_of r) (row_key_of l) ls back a.0) b.0, h.0 a b.1),
      λ x a b. (b.0, h.1 x a b.1),
    ))
  where
    same : (l r : Row) → row_order (row_key_of l) (row_key_of r) ≡ Equal → row_key_of l ≡ row_key_of r
    same l r e = row_order-IsAntisymmetric (row_key_of l) (row_key_of r) e

    reversed : (l r : Row) → row_order (row_key_of l) (row_key_of r) ≡ Greater → row_order (row_key_of r) (row_key_of l) ≡ Less
    reversed l r e = row_order-total.antisymm (row_key_of r) (row_key_of l) ∙ ap ordering_reverse e

pub in_order-merged : (ls rs : List Row) → AreInOrder ls → AreInOrder rs → AreInOrder (merged ls rs)
in_order-merged ls rs = (in_order-merged-with ls rs).0

-- ---- shifted rows

shifted-row_key : (by : ℕ) (row : Row) → row_key_of (shifted_row by row) ≡ row_key_of row
unfolding shifted_row
shifted-row_key by row = refl

pub row_keys-shifted : (by : ℕ) (rows : List Row) → map row_key_of (map (shifted_row by) rows) ≡ map row_key_of rows
row_keys-shifted by [] = refl
row_keys-shifted by (row ∷ rows) = λ i. shifted-row_key by row i ∷ row_keys-shifted by rows i

pub in_order-shifted : (by : ℕ) (rows : List Row) → AreInOrder rows → AreInOrder (map (shifted_row by) rows)
in_order-shifted by rows h = subst (IsStrictlySortedBy row_order) (sym (row_keys-shifted by rows)) h

IsSound-shifted : (by : ℕ) (row : Row) → IsSound row → IsSound (shifted_row by row)
unfolding shifted_row
IsSound-shifted by row h = record {
  some = h.some;
  top = best-moved by_rating_keeps by 4 row.top ∙ ap (map (moved_by by)) h.top;
  recent = best-moved by_month_keeps by 4 row.recent ∙ ap (map (moved_by by)) h.recent;
}

sound-shifted : (by : ℕ) (rows : List Row) → AllByRecursion IsSound rows → AllByRecursion IsSound (map (shifted_row by) rows)
sound-shifted by [] h = tt
sound-shifted by (row ∷ rows) h = (IsSound-shifted by row h.0, sound-shifted by rows h.1)

-- ---- the law

SameAt-merged : (c : RowKey) (ls rs : List Row) → SameAt (ls ++ rs) (merged ls rs) c
SameAt-merged c ls rs = record {
  white = sums (λ r. r.white) combined-white;
  draws = sums (λ r. r.draws) combined-draws;
  black = sums (λ r. r.black) combined-black;
  ratings = sums (λ r. r.ratings) combined-ratings;
  top = lists by_rating_is_order (λ r. r.top) combined-top;
  recent = lists by_month_is_order (λ r. r.recent) combined-recent;
}
  where
    sums : (f : Row → ℕ) → ((a b : Row) → f (combined a b) ≡ f a + f b) → sum_at f c (ls ++ rs) ≡ sum_at f c (merged ls rs)
    sums f adds = sum_by-append (λ row. cond (same_row_key c (row_key_of row)) (f row) 0) ls rs ∙ sym (sum_at-merged c f adds ls rs)

    lists : {before : Entry → Entry → Bool} → IsStrictTotalOrder before → (f : Row → List Entry) → ((a b : Row) → f (combined a b) ≡ best before 4 (f a ++ f b))
        → best before 4 (listed_at f c (ls ++ rs)) ≡ best before 4 (listed_at f c (merged ls rs))
    lists {before} order f joins =
        ap (best before 4) (flat_map-append (λ row. cond (same_row_key c (row_key_of row)) (f row) []) ls rs) ∙ sym (listed_at-merged c order f joins ls rs)

pub Tallied-merged : (left right : List Track) (ls rs : List Row) → Tallied left ls → Tallied right rs
    → Tallied (left ++ right) (merged ls (map (shifted_row (length left)) rs))
Tallied-merged left right ls rs a b =
    let by = length left in
    let shifted = map (shifted_row by) rs in
    let sound_left = recursion_from_All IsSound ls (IsSound-tallied left ls a) in
    let sound_right = sound-shifted by rs (recursion_from_All IsSound rs (IsSound-tallied right rs b)) in
    let ordered = in_order-shifted by rs b.ordered in
    Tallied-both left right ls rs (merged ls shifted) a b (λ c. SameAt-merged c ls shifted)
    (All-from_recursion IsSound (merged ls shifted) (sound-merged ls shifted sound_left sound_right))
    (in_order-merged ls shifted a.ordered ordered)

-- ---- the next row of both

none-some : {P : Type 0} (o : Ordering) → None ≡ Some o → P
none-some o e = cc

not_less : {P : Type 0} → Some Greater ≡ Some Less → P
not_less e = cc

not_greater : {P : Type 0} → Some Less ≡ Some Greater → P
not_greater e = cc

pub less-some : (ls rs : List Row) → next_order ls rs ≡ Some Less → 0 < length ls
less-some [] [] e = none-some Less e
less-some [] (r ∷ rs) e = not_less e
less-some (l ∷ ls) rs e = omega arith

pub greater-some : (ls rs : List Row) → next_order ls rs ≡ Some Greater → 0 < length rs
greater-some [] [] e = none-some Greater e
greater-some (l ∷ ls) [] e = not_greater e
greater-some [] (r ∷ rs) e = omega arith
greater-some (l ∷ ls) (r ∷ rs) e = omega arith

pub step-less : (ls rs : List Row) → next_order ls rs ≡ Some Less → merged ls rs ≡ take 1 ls ++ merged (drop 1 ls) rs
step-less [] [] e = none-some Less e
step-less [] (r ∷ rs) e = not_less e
step-less (l ∷ ls) [] e = merged-nil_right (l ∷ ls) ∙ ap (λ k. l ∷ k) (sym (merged-nil_right ls))
step-less (l ∷ ls) (r ∷ rs) e = merged-less l ls r rs (same_Some _ Less e)

pub step-greater : (ls rs : List Row) → next_order ls rs ≡ Some Greater → merged ls rs ≡ take 1 rs ++ merged ls (drop 1 rs)
step-greater [] [] e = none-some Greater e
step-greater (l ∷ ls) [] e = not_greater e
step-greater [] (r ∷ rs) e = merged-nil_left (r ∷ rs) ∙ ap (λ k. r ∷ k) (sym (merged-nil_left rs))
step-greater (l ∷ ls) (r ∷ rs) e = merged-greater l ls r rs (same_Some _ Greater e)

-- both next rows have the same parts
module _ (l r : Row) (ls rs new_ls new_rs : List Row) (e : next_order ls rs ≡ Some Equal) (at_l : ls ≡ l ∷ new_ls) (at_r : rs ≡ r ∷ new_rs) where
  pub same-row_key : row_order (row_key_of l) (row_key_of r) ≡ Equal
  same-row_key = same_Some _ Equal (sym (λ i. next_order (at_l i) (at_r i)) ∙ e)

  next-equal : merged ls rs ≡ combined l r ∷ merged new_ls new_rs
  next-equal = (λ i. merged (at_l i) (at_r i)) ∙ merged-equal l new_ls r new_rs same-row_key

  pub before-equal : (rows : List Row) → AreInOrder (rows ++ merged ls rs) → AreInOrder (rows ++ combined l r ∷ [])
  before-equal rows h =
      in_order-front (rows ++ combined l r ∷ []) (merged new_ls new_rs)
      (subst AreInOrder (ap (λ k. rows ++ k) next-equal ∙ sym (append_assoc rows (combined l r ∷ []) (merged new_ls new_rs))) h)

  pub after-equal : (rows new_rows : List Row) → new_rows ≡ rows ++ combined l r ∷ [] → new_rows ++ merged new_ls new_rs ≡ rows ++ merged ls rs
  after-equal rows new_rows moved =
      ap (λ k. k ++ merged new_ls new_rs) moved ∙ append_assoc rows (combined l r ∷ []) (merged new_ls new_rs) ∙ ap (λ k. rows ++ k) (sym next-equal)

  pub fewer-equal : length new_ls + length new_rs < length ls + length rs
  fewer-equal = omega (arith, ap length at_l, ap length at_r)

pub equal-some : (ls rs : List Row) → next_order ls rs ≡ Some Equal → (0 < length ls) × (0 < length rs)
equal-some [] [] e = none-some Equal e
equal-some [] (r ∷ rs) e = cc
equal-some (l ∷ ls) [] e = cc
equal-some (l ∷ ls) (r ∷ rs) e = (omega arith, omega arith)

pub both-ended : (ls rs : List Row) → next_order ls rs ≡ None → merged ls rs ≡ []
both-ended [] [] e = merged-nil_left []
both-ended [] (r ∷ rs) e = cc
both-ended (l ∷ ls) [] e = cc
both-ended (l ∷ ls) (r ∷ rs) e = cc

pub order-of-keys : (ls rs : List Row) (a b : RowKey) → next_row_key ls ≡ Some a → next_row_key rs ≡ Some b → next_order ls rs ≡ Some (row_order a b)
order-of-keys [] rs a b e f = cc
order-of-keys (l ∷ ls) [] a b e f = cc
order-of-keys (l ∷ ls) (r ∷ rs) a b e f = λ i. Some (row_order (same_Some _ a e i) (same_Some _ b f i))

pub next-shifted : (by : ℕ) (rows : List Row) → next_row_key (map (shifted_row by) rows) ≡ next_row_key rows
next-shifted by [] = refl
next-shifted by (row ∷ rows) = ap Some (shifted-row_key by row)

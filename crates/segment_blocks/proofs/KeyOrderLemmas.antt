-- The words of two keys compare as the keys do.
use Rattle.std.proofs.Common.{◌≡◌, ℕ, ◌+◌, ◌≤◌, true, List, length, get_or, drop, refl, sym, ap, ◌∙◌, true≢false, arith}
use Rattle.std.specs.declared.cmp.Ordering.{Ordering}
use Rattle.std.specs.declared.cmp.Ordering.TheVariants.{Less, Equal, Greater}
use Rattle.std.specs.Ordering.{on, nat_cmp, then_cmp, ordering_then, is_eq}
use Rattle.std.specs.Option.{option_cmp}
use Rattle.explorer_model.specs.Order.{speed_index}
use Rattle.std.specs.Cmp.{nat_cmp_total, tied_itself}
use Rattle.std.specs.FinMap.{nat_cmp-IsAntisymmetric, slice_cmp-IsAntisymmetric}
use Rattle.std.specs.Cmp.Lexicographic.{slice_cmp, nat_list_cmp_total}
use Rattle.std.proofs.lemmas.List.{drop_more, drop_all}
use Rattle.tally_rows.specs.declared.row_key.RowKey.{RowKey}
use Rattle.tally_rows.specs.RowKey.{month_order, move_order, row_order}
use Rattle.tally_rows.specs.SortEntry.{spelled}
use Rattle.tally_rows.proofs.EntryOrder.{AreBytes, spelled_cmp}

then-unequal : (p q : Ordering) → (p ≡ Equal → ⊥) → ordering_then p q ≡ p
then-unequal Less q h = refl
then-unequal Equal q h = absurd (h refl)
then-unequal Greater q h = refl

-- the keys decide where they differ
pub row_order-by-key : (a b : RowKey) (o : Ordering) → slice_cmp nat_cmp a.key b.key ≡ o → (o ≡ Equal → ⊥) → row_order a b ≡ o
unfolding row_order
row_order-by-key a b o e h = then-unequal (slice_cmp nat_cmp a.key b.key) _ (λ d. h (sym e ∙ d)) ∙ e

-- what rows of one key are ordered by
abbrev pub rest_order : RowKey → RowKey → Ordering
rest_order =
    then_cmp (on (λ p. p.next) (option_cmp move_order))
    (then_cmp (on (λ p. p.month) month_order) (then_cmp (on (λ p. p.speed) (on speed_index nat_cmp)) (on (λ p. p.group.value) nat_cmp)))

pub row_order-at-a-key : (a b : RowKey) → a.key ≡ b.key → row_order a b ≡ rest_order a b
unfolding row_order
row_order-at-a-key a b e =
    ap (λ o. ordering_then o (rest_order a b)) (ap (slice_cmp nat_cmp a.key) (sym e) ∙ tied_itself nat_list_cmp_total a.key)

-- what rows of one key and one move are ordered by behind the month
abbrev class_order : RowKey → RowKey → Ordering
class_order a b = ordering_then (nat_cmp (speed_index a.speed) (speed_index b.speed)) (nat_cmp a.group.value b.group.value)

module _ (a b : RowKey) (same : a.key ≡ b.key) where
  -- the moves decide where they differ
  pub row_order-by-move : (o : Ordering) → o ≡ option_cmp move_order a.next b.next → (o ≡ Equal → ⊥) → o ≡ row_order a b
  row_order-by-move o is h =
      sym (row_order-at-a-key a b same ∙ ap (λ p. ordering_then p (ordering_then (month_order a.month b.month) (class_order a b))) (sym is)
      ∙ then-unequal o (ordering_then (month_order a.month b.month) (class_order a b)) h)

  -- and the months where the moves are the same
  module _ (o : Ordering) (moves : option_cmp move_order a.next b.next ≡ Equal) (is : o ≡ month_order a.month b.month) where
    at-a-move : row_order a b ≡ ordering_then o (class_order a b)
    at-a-move =
        row_order-at-a-key a b same ∙ ap (λ p. ordering_then p (ordering_then (month_order a.month b.month) (class_order a b))) moves
        ∙ ap (λ p. ordering_then p (class_order a b)) (sym is)

    pub row_order-by-month : (o ≡ Equal → ⊥) → o ≡ row_order a b
    row_order-by-month h = sym (at-a-move ∙ then-unequal o (class_order a b) h)

    pub row_order-by-class : o ≡ Equal → row_order a b
        ≡ ordering_then (nat_cmp (speed_index a.speed) (speed_index b.speed)) (nat_cmp a.group.value b.group.value)
    row_order-by-class e = at-a-move ∙ ap (λ p. ordering_then p (class_order a b)) e

-- the first of two numbers decides where they differ
pub first-decides : (m n : ℕ) (q : Ordering) → (m ≡ n → ⊥) → ordering_then (nat_cmp m n) q ≡ nat_cmp m n
first-decides m n q h = then-unequal (nat_cmp m n) q (λ e. h (nat_cmp-IsAntisymmetric m n e))

pub second-decides : (m n : ℕ) (q : Ordering) → m ≡ n → ordering_then (nat_cmp m n) q ≡ q
second-decides m n q e = ap (λ k. ordering_then (nat_cmp m k) q) (sym e) ∙ ap (λ o. ordering_then o q) (tied_itself nat_cmp_total m)

-- what two keys come to from a byte on
abbrev pub left : List ℕ → List ℕ → ℕ → Ordering
left xs ys at = slice_cmp nat_cmp (drop at xs) (drop at ys)

module _ (xs ys : List ℕ) (long : length xs ≡ 34) (wide : length ys ≡ 34) where
  module _ (small : AreBytes xs) (little : AreBytes ys) where
    word : (at : ℕ) → at + 8 ≤ 34 → left xs ys at ≡ ordering_then (nat_cmp (spelled xs at 8) (spelled ys at 8)) (left xs ys (at + 8))
    word at within = spelled_cmp 8 at xs ys small little (omega (arith, within, long)) (omega (arith, within, wide))

    pub word-decides : (at : ℕ) → at + 8 ≤ 34 → (spelled xs at 8 ≡ spelled ys at 8 → ⊥) → left xs ys at ≡ nat_cmp (spelled xs at 8) (spelled ys at 8)
    word-decides at within h = word at within ∙ first-decides (spelled xs at 8) (spelled ys at 8) (left xs ys (at + 8)) h

    pub word-same : (at : ℕ) → at + 8 ≤ 34 → spelled xs at 8 ≡ spelled ys at 8 → left xs ys at ≡ left xs ys (at + 8)
    word-same at within e = word at within ∙ second-decides (spelled xs at 8) (spelled ys at 8) (left xs ys (at + 8)) e

  byte : (at : ℕ) → at + 1 ≤ 34 → left xs ys at ≡ ordering_then (nat_cmp (get_or xs at 0) (get_or ys at 0)) (left xs ys (at + 1))
  byte at within = λ i. slice_cmp nat_cmp (drop_more xs at 0 (omega (arith, within, long)) i) (drop_more ys at 0 (omega (arith, within, wide)) i)

  pub byte-same : (at : ℕ) → at + 1 ≤ 34 → get_or xs at 0 ≡ get_or ys at 0 → left xs ys at ≡ left xs ys (at + 1)
  byte-same at within e = byte at within ∙ second-decides (get_or xs at 0) (get_or ys at 0) (left xs ys (at + 1)) e

  ends : left xs ys 34 ≡ Equal
  ends = λ i. slice_cmp nat_cmp (drop_all 34 xs (omega (arith, long)) i) (drop_all 34 ys (omega (arith, wide)) i)

  pub last-byte : left xs ys 33 ≡ nat_cmp (get_or xs 33 0) (get_or ys 33 0)
  last-byte = byte 33 (omega arith) ∙ ap (ordering_then (nat_cmp (get_or xs 33 0) (get_or ys 33 0))) ends ∙ nothing-more (nat_cmp (get_or xs 33 0) (get_or ys 33 0))
    where
      nothing-more : (p : Ordering) → ordering_then p Equal ≡ p
      nothing-more Less = refl
      nothing-more Equal = refl
      nothing-more Greater = refl

pub keys-same : (xs ys : List ℕ) → is_eq (slice_cmp nat_cmp xs ys) ≡ true → xs ≡ ys
keys-same xs ys e = slice_cmp-IsAntisymmetric nat_cmp-IsAntisymmetric xs ys (equal (slice_cmp nat_cmp xs ys) e)
  where
    equal : (o : Ordering) → is_eq o ≡ true → o ≡ Equal
    equal Less e = absurd (true≢false (sym e))
    equal Equal e = refl
    equal Greater e = absurd (true≢false (sym e))
